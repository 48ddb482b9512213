-- A round that can be opened is an opened one once its tables are cleared. Assumes nothing.
use Rattle.std.proofs.Common.{◌≡◌, ℕ, ◌≤◌, List, length, get_or, replicate, sym, ap, ◌∙◌, subst, ⊎_elim}
use Rattle.std.proofs.lemmas.Bool.{cases_lt}
use Rattle.std.proofs.lemmas.List.{get_or-replicate, get_or_past, length-replicate}
use Rattle.records.specs.declared.record.Record.{Record}
use Rattle.records.specs.Records.{record_of}
use Rattle.sheet.specs.Graph.{Graph}
use Rattle.protocol.specs.World.{World}
use Rattle.protocol.specs.History.{Opened}
use Rattle.round.specs.Closing.{Openable}

-- marks that are so many zeros are all clear
all_clear : (m : List ℕ) (n : ℕ) → m ≡ replicate n 0 → (p : ℕ) → get_or m p 0 ≡ 0
all_clear m n same p =
    ap (λ l. get_or l p 0) same
    ∙ ⊎_elim (λ l. get_or-replicate n p 0 0 l) (λ past. get_or_past _ p 0 (subst (λ k. k ≤ p) (sym (length-replicate n 0)) past)) (cases_lt p n)

-- the same round and line, with these tables
abbrev pub with_tables : World → List Record → List ℕ → World
with_tables w rs m = record {
  parcel_count = w.parcel_count;
  entry_count = w.entry_count;
  store_count = w.store_count;
  turns = w.turns;
  sent = w.sent;
  records = rs;
  marks = m;
  waiting = w.waiting;
  capacity = w.capacity;
  next = w.next;
}

pub opens : {K : Type 0} {t : Graph K} {w : World} {rs : List Record} {m : List ℕ} → Openable t w → length rs ≡ length w.records → ((u : ℕ) → record_of rs u ≡ record { state = 0; choice = 0 }) → length m ≡ length w.marks → (n : ℕ) → m ≡ replicate n 0 → Opened t (with_tables w rs m)
opens {m = m} able records_long idle marks_long n clear = record {
  parcel_count = able.parcel_count;
  entry_count = able.entry_count;
  store_count = able.store_count;
  turns = able.turns;
  sent = able.sent;
  records_long = records_long ∙ able.records_long;
  idle = idle;
  marks_long = marks_long ∙ able.marks_long;
  clear = all_clear m n clear;
  empty = able.empty;
  room = able.room;
}
