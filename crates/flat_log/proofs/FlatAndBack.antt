-- A log laid flat and taken up again is the same log.
-- Assumes nothing.
use mathlib.Core.Path.{◌≡◌}
use Rattle.wire.specs.Checks.{taken}
use Rattle.lent_log.specs.declared.Log.{Log}
use Rattle.flat.proofs.Flags.{flag-again, says-again}
use Rattle.flat_log.specs.Lending.{known_log, flat_log}

pub log-again : (l : Log) → known_log (flat_log l) ≡ taken l
log-again l = rw (flag-again l.ended, says-again l.ended)
