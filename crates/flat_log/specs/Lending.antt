-- Logs, and what the lending end answers.
-- Assumes nothing.
use Rattle.std.specs.Prelude.{ℕ, ◌≡◌, List, [], ◌∷◌}
use Rattle.wire.specs.Checks.{Verdict, refused, taken, ◌else◌, checked, ◌into◌}
use Rattle.wire.specs.Refusals.{number_of}
use Rattle.wire.specs.Reply.{Reply}
use Rattle.wire.specs.declared.refusal.Refusal.TheVariants.{Broken}
use Rattle.lend.specs.Answer.{answer_reply, heartbeat_reply, end_packet_reply}
use Rattle.lent_log.specs.Log.{Kept, adding, adding_many, declaring, logged_of, left_of}
use Rattle.lent_log.specs.declared.Log.{Log}
use Rattle.flat.specs.Flag.{is_flag, says, byte_of}
use Rattle.flat_log.specs.declared.FlatLog.{FlatLog}
use Rattle.flat_log.specs.declared.FlatLogged.{FlatLogged}

-- the log that a flat one is, if its flag is a flag, and back; FlatAndBack shows that nothing is lost
abbrev pub log_of : FlatLog → Log
log_of l = record { count = l.count; used = l.used; ended = says l.ended }

abbrev pub known_log : FlatLog → Verdict Log
known_log l = checked ((is_flag l.ended else Broken) ∷ []) (taken (log_of l))

abbrev pub flat_log : Log → FlatLog
flat_log l = record { count = l.count; used = l.used; ended = byte_of l.ended }

-- on a refusal the log that was given
abbrev pub flat_logged : FlatLog → Verdict Log → FlatLogged
flat_logged given (refused why) = record { refusal = number_of why; log = given }
flat_logged given (taken after) = record { refusal = 0; log = flat_log after }

-- the answer r and the bytes left are those of the verdict
pub record FlatEntered (v : Verdict Kept) (given : FlatLog) (s : List ℕ) (r : FlatLogged) (left : List ℕ) : Type 0 where
  pub answer : r ≡ flat_logged given (logged_of v)
  pub bytes : left ≡ left_of s v

-- the entries: a flag that is none is 10, before all else
abbrev pub add_verdict : FlatLog → (bytes message : List ℕ) → Verdict Kept
add_verdict given bytes message = known_log given into λ l. adding l bytes message

abbrev pub add_many_verdict : FlatLog → (bytes blocks : List ℕ) → Verdict Kept
add_many_verdict given bytes blocks = known_log given into λ l. adding_many l bytes blocks

abbrev pub end_answer : FlatLog → List ℕ → FlatLogged
end_answer given bytes = flat_logged given (logged_of (known_log given into λ l. declaring l bytes))

abbrev pub answer_flat : FlatLog → (bytes : List ℕ) (first count room : ℕ) → Reply
answer_flat given bytes first count room = known_log given into λ l. answer_reply l bytes first count room

abbrev pub heartbeat_flat : FlatLog → (bytes : List ℕ) (room : ℕ) → Reply
heartbeat_flat given bytes room = known_log given into λ l. heartbeat_reply l bytes room

abbrev pub end_packet_flat : FlatLog → (bytes : List ℕ) (room : ℕ) → Reply
end_packet_flat given bytes room = known_log given into λ l. end_packet_reply l bytes room
