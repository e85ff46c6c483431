-- Releasing held messages: one goes out as soon as it is next.
-- Assumes nothing.
use Rattle.std.specs.Prelude.{ℕ, zero, suc, ◌+◌, ◌≤◌, ◌<◌, ◌≡◌, List, [], ◌∷◌, length, if◌then◌else◌}
use Rattle.std.proofs.lemmas.List.Edits.{sets}
use Rattle.wire.specs.Checks.{◌at_most◌, Verdict, refused, taken, ◌else◌, checked, ◌told_by◌}
use Rattle.wire.specs.declared.refusal.Refusal.TheVariants.{Room, Broken}
use Rattle.blocks.specs.Blocks.{frames, stated}
use Rattle.held.specs.Slots.{area_size, longest, slot_of, full, slot_at, held_message}
use Rattle.held.specs.Hanging.{sound}
use Rattle.held.specs.declared.releasing.Released.{Released}

-- how many of n slots, from that of message m on, are full one after another: Releases.run-full, run-stops
unfoldable pub run : ℕ → (held m : ℕ) → ℕ
run zero held m = 0
run (suc n) held m = if full held m then suc (run n held (suc m)) else 0

-- the k messages held from number m on; Releases.held_at: the one at place j is number m + j
unfoldable pub held_from : ℕ → List ℕ → (m : ℕ) → List (List ℕ)
held_from zero area m = []
held_from (suc k) area m = held_message area m ∷ held_from k area (suc m)

-- the slots of the k messages from number m on are in the area, and have room for what they state
pub record Fitting (area : List ℕ) (m k : ℕ) : Type 0 where
  pub few : k ≤ 31
  pub long : area_size ≤ length area
  pub room : (j : ℕ) → j < k → stated (slot_at area (slot_of (m + j))) ≤ longest

-- what goes out where message m is next: at most 31 messages are held; Releases.released-free: N moves on to a free slot
abbrev pub released : (held : ℕ) → List ℕ → (m : ℕ) → List (List ℕ)
released held area m = held_from (run 31 held m) area m

-- into output with so much room, behind the bytes before `at`
abbrev pub releasing : (held : ℕ) → List ℕ → (m at room : ℕ) → Verdict (List (List ℕ))
releasing held area m at room =
    checked
    ((sound held area else Broken) ∷ (at + length (frames (released held area m)) at_most room else Room) ∷ [])
    (taken (released held area m))

-- how many messages that is, and how many bytes
abbrev pub released_of : List (List ℕ) → Released
released_of ms = record { messages = length ms; bytes = length (frames ms) }

abbrev pub left_of : Verdict (List (List ℕ)) → (at : ℕ) → List ℕ → List ℕ
left_of (refused why) at out = out
left_of (taken ms) at out = sets out at (frames ms)

-- the answer r and the bytes left are those of the verdict
pub record Settled (verdict : Verdict (List (List ℕ))) (at : ℕ) (out : List ℕ) (r : Verdict Released) (left : List ℕ) : Type 0 where
  pub answer : r ≡ verdict told_by released_of
  pub bytes : left ≡ left_of verdict at out
