use Rattle.std.proofs.Common.{◌≡◌, ℕ, ap, ◌∙◌, Ok, Err, MatchResult, rules}
use Rattle.std.proofs.lemmas.Result.{MatchResult-weaker, err_from_is_err_and}
use Rattle.sheet.specs.Held.{held}
use Rattle.sheet.proofs.Held.{held_sound}
use Rattle.protocol.specs.World.{World}
use Rattle.round.specs.declared.state.Round.{Round}
use Rattle.round.specs.Closing.{OpenRefused}
use Rattle.round.specs.Seen.{seen}
use Rattle.round.proofs.Boards.{same_boards}
use Rattle.rounds.proofs.Settling.{one_run, ready_opens, settled_did, settled_settles, settled_ready}
use Rattle.rounds.proofs.settle.Goals as goal

pub returns-in_err-round-clause-ready : goal.returns-in_err-round-clause-ready
returns-in_err-round-clause-ready g c = λ alike ready. absurd (ready_opens (held c.args.sheet.now) ready c.in_err-round.ensures.opens.0)

pub returns : goal.returns
returns g c =
    let atleast = g.K.Ranking.atleast in
    let l = g.L.Line in
    let laws = g.met.K.Ranking.lawful in
    let t = held c.args.sheet.now in
    let sound = held_sound c.args.sheet.now in
    let was = c.args.board.now in
    let round = c.run.new.round in
    let o = c.in_ok-round.ensures.opens in
    let ran = c.run.ensures.turns in
    let see : Round → World = λ x. seen l.waiting l.capacity l.chosen x c.run.new.board in
    let unopened : ℕ → ℕ → Type 0 = λ k p. OpenRefused t was.records.now was.marks.now (l.waiting was.line.now) (l.capacity was.line.now) k p × (c.run.new.board ≡ was) in
    let without : MatchResult c.close.result (λ x. c.map_err.result ≡ Ok x) (λ e. c.map_err.result ≡ Err e.1) =
    MatchResult-weaker c.close.result c.map_err.ensures.cases (λ x is. is) (λ e k. let p = err_from_is_err_and c.map_err.result k in p.1 ∙ ap Err (search rules)) in
    record {
      did = settled_did atleast laws t sound see unopened round o ran c.close.result c.map_err.result without c.close.ensures.answer;
      settles = λ alike. settled_settles atleast laws t sound see unopened round o ran (c.close.ensures.law _ alike (one_run atleast laws t sound o ran)) c.close.result c.map_err.result without c.close.ensures.answer;
      ready = λ alike ready. settled_ready atleast laws t sound see unopened round o ran (c.close.ensures.law _ alike (one_run atleast laws t sound o ran)) c.close.result c.map_err.result without c.close.ensures.answer;
      board = same_boards c.open.ensures.board c.run.ensures.board;
    }
