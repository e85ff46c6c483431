-- What the reader says of any packet is what one list of checks says: 1, 2 and the block lengths (4) over the whole packet, and then each
-- message in turn, whose checks stand in the readers' order: 1, 2, 3, 4, 8, 5, 6, 7.
-- Assumes nothing.
use Rattle.std.specs.Prelude.{if◌then◌else◌}
use Prim.Native.Nat.{ℕ, ◌≤◌}
use mathlib.Core.Path.{◌≡◌, refl, ap, ◌∙◌}
use mathlib.Core.List.{List, [], ◌∷◌, ◌++◌, map}
use mathlib.Core.Bool.{Bool, true, ◌||◌}
use borrow.Author.Tests.{eq-eqb}
use lib.ListN.{length, drop}
use Rattle.wire.specs.Checks.{◌is◌, Verdict, refused, taken, Check, ◌else◌, checked, ordered, ◌into◌}
use Rattle.wire.specs.Datagram.{limit, opening}
use Rattle.wire.specs.declared.refusal.Refusal.{Refusal}
use Rattle.wire.specs.declared.refusal.Refusal.TheVariants.{UnknownType, Framing}
use Rattle.wire.proofs.Tests.{by-test}
use Rattle.wire.proofs.Checks.{into-checked}
use Rattle.blocks.specs.Blocks.{Cut, torn, whole, upstream, is_whole, messages_of}
use Rattle.blocks.proofs.Cutting.{not-torn}
use Rattle.ufo_up.specs.Up.{Message, login, request, unsequenced, heartbeat, logout, kind, user_l, password_l, session_l, checks_l, read_l}
use Rattle.ufo_up.specs.Up.{first_t, count_t, checks_t, read_t, checks_u, read_u, checks_alone, read_alone}
use Rattle.ufo_up.specs.Up.{read_message, read_each, read_cut}
use Rattle.ufo_up.specs.Up.{read_up}
use Rattle.ufo_up.proofs.UpPacket.{opened, each_append}

-- ---- one message

module _ (m : List ℕ) where
  -- the type is one of the five
  abbrev known : Bool
  known = kind m is 76 || kind m is 84 || kind m is 85 || kind m is 82 || kind m is 79

  -- what is checked of its type
  abbrev of_type : List Check
  of_type =
      if kind m is 76 then checks_l m else
      if kind m is 84 then checks_t m else
      if kind m is 85 then checks_u m else
      checks_alone m

  -- all that is checked of a message, in one list
  abbrev pub checks : List Check
  checks = (known else UnknownType) ∷ of_type

  -- what it says, if none fails
  abbrev pub says : Message
  says =
      if kind m is 76 then login (user_l m) (password_l m) (session_l m) else
      if kind m is 84 then request (first_t m) (count_t m) else
      if kind m is 85 then unsequenced (drop 1 m) else
      if kind m is 82 then heartbeat else
      logout

  pub message-is-checked : read_message m ≡ checked checks (taken says)
  unfolding read_message read_l read_t read_u read_alone
  message-is-checked =
      by-test (kind m is 76) (λ l. rw l)
      (λ l. by-test (kind m is 84) (λ t. rw (l, t))
      (λ t. by-test (kind m is 85) (λ u. rw (l, t, u))
      (λ u. by-test (kind m is 82) (λ r. rw (l, t, u, r))
      (λ r. by-test (kind m is 79) (λ o. rw (l, t, u, r, o)) (λ o. rw (l, t, u, r, o))))))

  pub message-in-order : ordered checks ≡ true
  message-in-order =
      by-test (kind m is 76) (λ l. rw l)
      (λ l. by-test (kind m is 84) (λ t. rw (l, t))
      (λ t. by-test (kind m is 85) (λ u. rw (l, t, u)) (λ u. rw (l, t, u))))

-- ---- a packet

-- what is checked of a packet before its messages
abbrev pub packet_checks : List ℕ → List Check
packet_checks d = opening d ++ (is_whole (upstream d) else Framing) ∷ []

pub packet-in-order : (d : List ℕ) → ordered (packet_checks d) ≡ true
packet-in-order d = refl

-- and of its messages, each in turn
abbrev pub each_checks : List (List ℕ) → List Check
each_checks [] = []
each_checks (b ∷ bs) = checks b ++ each_checks bs

-- checks after checks
checked-append : {A : Type 0} (cs ds : List Check) (v : Verdict A) → checked (cs ++ ds) v ≡ checked cs (checked ds v)
checked-append [] ds v = refl
checked-append (c ∷ cs) ds v = rw (checked-append cs ds v)

each-is-checked : (bs : List (List ℕ)) → read_each bs ≡ checked (each_checks bs) (taken (map says bs))
unfolding read_each
each-is-checked [] = refl
each-is-checked (b ∷ bs) =
    rw (message-is-checked b, each-is-checked bs, checked-append (checks b) (each_checks bs) (taken (map says (b ∷ bs))))
    (into-checked (checks b) (taken (says b)) (λ m. checked (each_checks bs) (taken (map says bs)) into (λ ms. taken (m ∷ ms)))
    ∙ ap (checked (checks b)) (into-checked (each_checks bs) (taken (map says bs)) (λ ms. taken (says b ∷ ms))))

pub read-is-checked : (d : List ℕ) → let bs = messages_of (upstream d) in
    read_up d ≡ checked (packet_checks d ++ each_checks bs) (taken (map says bs))
unfolding read_up
read-is-checked d = by (upstream d) where
  by : (q : Cut) → let bs = messages_of q in
      checked (opening d) (read_cut q) ≡ checked ((opening d ++ (is_whole q else Framing) ∷ []) ++ each_checks bs) (taken (map says bs))
  by torn = refl
  by (whole bs) = rw (each-is-checked bs)

-- the first message that is refused gives the packet its number
pub first-refused : (d : List ℕ) (before : List (List ℕ)) (b : List ℕ) (after : List (List ℕ)) (ms : List Message) (why : Refusal)
    → length d ≤ limit → upstream d ≡ whole (before ++ (b ∷ after)) → read_each before ≡ taken ms → read_message b ≡ refused why
    → read_up d ≡ refused why
unfolding read_each
first-refused d before b after ms why l u t e =
    let bs = before ++ (b ∷ after) in
    opened d (λ z. not-torn (upstream d) bs (rw (eq-eqb (length d) 0 z)) u) l ∙ rw (u, each_append before (b ∷ after), t, e)
