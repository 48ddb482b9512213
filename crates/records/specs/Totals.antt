-- What the close of a round answers where nothing was done. Assumes nothing.
use Rattle.records.specs.declared.ledger.Totals.{Totals}

abbrev pub no_totals : Totals
no_totals = record { tally = record { pairs = 0; lone = 0 }; sent = 0; turns = 0 }
