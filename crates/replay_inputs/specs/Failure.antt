-- What a failure tells. Definitions only.
use Rattle.std.specs.Prelude.{◌≡◌}
use Rattle.std.specs.IoError.{error_kind}
use Rattle.std.specs.declared.io.ErrorKind.TheVariants.{OutOfMemory}
use Rattle.replay_inputs.specs.declared.failure.Failure.{Failure}
use Rattle.replay_inputs.specs.declared.failure.Failure.TheVariants.{Refused, Io}

-- memory failed, and no call was refused
abbrev pub OfMemory : Failure → Type 0
OfMemory (Refused r) = ⊥
OfMemory (Io e) = error_kind e ≡ OutOfMemory
