-- One message: a lawful one is read from what was written, and what is read is lawful and writes the same bytes.
-- Assumes nothing.
use Prim.Native.Nat.{ℕ, ◌^◌, ◌≤◌, ◌<◌}
use mathlib.Core.List.{List, [], ◌∷◌, ◌++◌, append_assoc}
use mathlib.Core.Path.{◌≡◌, refl, ap, sym, ◌∙◌}
use mathlib.Core.Bool.{not}
use native.Mathlib.Omega.{arith}
use borrow.Author.Tests.{le-leb, eq-eqb, ne_eqb, leb-true, eqb-true, not-true}
use lib.ListN.{length, drop, length-append, length-drop, drop_of_length-le}
use lib.Seq.{take_at, drop_at, take_all}
use Rattle.wire.specs.Fields.{bytes_of, Bytes}
use Rattle.wire.specs.Checks.{◌is◌, refused, taken, Check, ◌else◌, checked, Passed}
use Rattle.wire.specs.declared.refusal.Refusal.TheVariants.{UnknownType, Form, Absent}
use Rattle.text.specs.Text.{blank, text_then_spaces}
use Rattle.wire.proofs.Tests.{nonzero}
use Rattle.wire.proofs.Width.{be-bytes_of, be-last, be-lt, bytes_drop, length-bytes_of, length_part, part-again, first-again, written-again}
use Rattle.wire.proofs.Width.{written_last}
use Rattle.wire.proofs.Checks.{not-both, came-by}
use Rattle.ufo_up.specs.Up.{Message, login, request, unsequenced, heartbeat, logout, write_message, FitMessage, kind, user_l, password_l}
use Rattle.ufo_up.specs.Up.{session_l, first_t, count_t, checks_l, checks_t, checks_u, checks_alone, read_l, read_t, read_u, read_alone}
use Rattle.ufo_up.specs.Up.{read_message}
use Rattle.ufo_up.proofs.UpMessage.{of-kind}

-- a message has a byte or more, and a lawful one goes into a packet
pub full-message : (m : Message) → 0 < length (write_message m)
full-message (login u w s) = omega arith
full-message (request n c) = omega arith
full-message (unsequenced b) = omega arith
full-message heartbeat = omega arith
full-message logout = omega arith

pub length-message : (m : Message) → FitMessage m → length (write_message m) ≤ 1470
length-message (login u w s) f = simp (length-append, f.0.0, f.1.0, f.2.0) (omega arith)
length-message (request n c) f = simp (length-append, length-bytes_of) (omega arith)
length-message (unsequenced b) f = omega (arith, f.1)
length-message heartbeat f = omega arith
length-message logout f = omega arith

-- what is left to check of a message that was written, by its fields
abbrev pub left_l : List ℕ → List ℕ → List ℕ → List Check
left_l u w s =
    (text_then_spaces u else Form) ∷ (text_then_spaces w else Form) ∷ (text_then_spaces s else Form) ∷ (not (blank u) else Absent) ∷ []

abbrev pub left_t : ℕ → ℕ → List Check
left_t n c = (not (n is 0) else Absent) ∷ (not (c is 0) else Absent) ∷ []

pub checks-login : (u w s : List ℕ) → length u ≡ 6 → length w ≡ 10 → length s ≡ 10
    → read_message (write_message (login u w s)) ≡ checked (left_l u w s) (taken (login u w s))
unfolding read_l
checks-login u w s hu hw hs =
    let m = write_message (login u w s) in
    let l : length m ≡ 27 = simp (length-append, hu, hw, hs) refl in
    let a : user_l m ≡ u = take_at u (w ++ s) 6 hu in
    let b : password_l m ≡ w = rw (drop_at u (w ++ s) 6 hu) (take_at w s 10 hw) in
    let c : drop 17 m ≡ s = rw (← append_assoc u w s) (drop_at (u ++ w) s 16 (rw (length-append, hu, hw) refl)) in
    let t : session_l m ≡ s = rw c (take_all 10 s (omega arith)) in
    of-kind m 76 refl ∙ rw (eq-eqb (length m) 27 l, a, b, t)

pub checks-request : (n c : ℕ) → n < 2 ^ 32 → c < 2 ^ 16
    → read_message (write_message (request n c)) ≡ checked (left_t n c) (taken (request n c))
unfolding read_t
checks-request n c hn hc =
    let m = write_message (request n c) in
    let l : length m ≡ 7 = simp (length-append, length-bytes_of) refl in
    let a : first_t m ≡ n = be-bytes_of 4 n (bytes_of 2 c) hn in
    let b : count_t m ≡ c = rw (drop_at (bytes_of 4 n) (bytes_of 2 c) 4 (length-bytes_of 4 n)) (be-last 2 c hc) in
    of-kind m 84 refl ∙ rw (eq-eqb (length m) 7 l, a, b)

pub read-unsequenced : (b : List ℕ) → length b ≤ 1469 → read_message (write_message (unsequenced b)) ≡ taken (unsequenced b)
unfolding read_u
read-unsequenced b h = of-kind (85 ∷ b) 85 refl ∙ rw (le-leb (length (85 ∷ b)) 1470 (omega arith))

-- reading what was written
pub read-message : (m : Message) → FitMessage m → read_message (write_message m) ≡ taken m
unfolding read_alone
read-message (login u w s) f = checks-login u w s f.0.0 f.1.0 f.2.0 ∙ rw (f.0.1, f.1.1, f.2.1, f.3)
read-message (request n c) f =
    checks-request n c f.1 f.3 ∙ rw (ne_eqb n 0 (λ e. omega arith), ne_eqb c 0 (λ e. omega arith))
read-message (unsequenced b) f = read-unsequenced b f.1
read-message heartbeat f = of-kind (82 ∷ []) 82 refl
read-message logout f = of-kind (79 ∷ []) 79 refl

-- writing what was read
module _ (s : List ℕ) (b : Bytes s) (m : Message) where
  written-L : kind s ≡ 76 → Passed (checks_l s) → login (user_l s) (password_l s) (session_l s) ≡ m → FitMessage m × (write_message m ≡ s)
  written-L k p q =
      let l : length s ≡ 27 = eqb-true (length s) 27 p.0 in
      let last : session_l s ≡ drop 17 s = take_all 10 (drop 17 s) (rw length-drop (omega arith)) in
      rw (← q) (
        (
          (length_part 1 6 s (omega arith), p.1.0),
          (length_part 7 10 s (omega arith), p.1.1.0),
          (length_part 17 10 s (omega arith), p.1.1.1.0),
          not-true (blank (user_l s)) p.1.1.1.1.0,
        ),
        rw (last, part-again 7 10 s, part-again 1 6 s) (first-again 76 s (omega arith) k),
      )

  written-T : kind s ≡ 84 → Passed (checks_t s) → request (first_t s) (count_t s) ≡ m → FitMessage m × (write_message m ≡ s)
  written-T k p q =
      let l : length s ≡ 7 = eqb-true (length s) 7 p.0 in
      rw (← q) (
        (
          nonzero (first_t s) p.1.0,
          be-lt 4 (drop 1 s) (bytes_drop 1 s b),
          nonzero (count_t s) p.1.1.0,
          be-lt 2 (drop 5 s) (bytes_drop 5 s b),
        ),
        rw (written_last 2 5 s b l, written-again 4 1 s b (omega arith)) (first-again 84 s (omega arith) k),
      )

  written-U : kind s ≡ 85 → Passed (checks_u s) → unsequenced (drop 1 s) ≡ m → FitMessage m × (write_message m ≡ s)
  written-U k p q =
      let l = leb-true (length s) 1470 p.0 in
      rw (← q) ((bytes_drop 1 s b, rw length-drop (omega arith)), first-again 85 s (omega arith) k)

  written-alone : (said : Message) (n : ℕ) → FitMessage said → write_message said ≡ n ∷ [] → 0 < n → kind s ≡ n → Passed (checks_alone s)
      → said ≡ m → FitMessage m × (write_message m ≡ s)
  written-alone said n f w h k p q =
      let l : length s ≡ 1 = eqb-true (length s) 1 p.0 in
      let none : drop 1 s ≡ [] = drop_of_length-le s {i = 1} (omega arith) in
      rw (← q) (f, w ∙ ap (λ (t : List ℕ). n ∷ t) (sym none) ∙ first-again n s h k)

pub write-message : (s : List ℕ) → Bytes s → (m : Message) → read_message s ≡ taken m → FitMessage m × (write_message m ≡ s)
unfolding read_message read_l read_t read_u read_alone
write-message s b m =
    let k = kind s in
    came-by k 76 (checks_l s) _ m _ (written-L s b m)
    (came-by k 84 (checks_t s) _ m _ (written-T s b m)
    (came-by k 85 (checks_u s) _ m _ (written-U s b m)
    (came-by k 82 (checks_alone s) _ m _ (written-alone s b m heartbeat 82 tt refl (omega arith))
    (came-by k 79 (checks_alone s) _ m _ (written-alone s b m logout 79 tt refl (omega arith))
    (not-both (refused UnknownType) UnknownType m refl)))))
