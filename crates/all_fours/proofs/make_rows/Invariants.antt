use Rattle.std.proofs.Common.{◌+◌, ◌*◌, ◌≤◌, vec_len}
use Rattle.all_fours.proofs.make_rows.Given as goal

abbrev pub invariant-loop-v : goal.invariant-loop-v
invariant-loop-v l = vec_len l.rows.others ≤ 4 * l.u + l.v

abbrev pub invariant-loop-u : goal.invariant-loop-u
invariant-loop-u l = vec_len l.rows.others ≤ 4 * l.u
