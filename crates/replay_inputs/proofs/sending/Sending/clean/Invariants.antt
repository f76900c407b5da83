-- `replay_inputs::sending::Sending::clean` meets its contract: two numbers for each sample. Assumes nothing.
use Rattle.std.proofs.Common.{◌≡◌, ◌*◌, vec_len}
use Rattle.replay_inputs.proofs.sending.Sending.clean.Given as goal

abbrev pub invariant-loop-n : goal.invariant-loop-n
invariant-loop-n l = vec_len l.out ≡ 2 * l.n
