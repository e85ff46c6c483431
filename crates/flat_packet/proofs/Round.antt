-- What a round through the flat fields asks of any protocol: what was read is lawful, and what was written is
-- what its reader takes.
-- Assumes nothing.
use Rattle.std.specs.Prelude.{if◌then◌else◌}
use Prim.Native.Nat.{ℕ, ◌+◌, ◌-◌, ◌^◌, ◌<◌}
use mathlib.Core.Path.{◌≡◌, refl, sym, ◌∙◌}
use mathlib.Core.Bool.{true}
use mathlib.Core.List.{List, [], ◌∷◌}
use native.Mathlib.Nat.{add-sub_cancel_left}
use native.Mathlib.Omega.{arith}
use borrow.Author.Tests.{ne_eqb, eqb-true, eqb-false}
use lib.ListN.{length, get_or, take, drop}
use lib.Seq.{take-length}
use Rattle.wire.specs.Fields.{Bytes}
use Rattle.wire.specs.Checks.{◌is◌, ◌at_most◌, Check, checked, Passed, Verdict, refused, taken}
use Rattle.wire.specs.Reply.{Reply, within, settle}
use Rattle.wire.specs.Refusals.{number_of}
use Rattle.wire.specs.declared.refusal.Refusal.{Refusal}
use Rattle.wire.specs.declared.refusal.Refusal.TheVariants.{Overlong, Framing}
use Rattle.wire.proofs.Checks.{chosen, not-both, all-passed, passed-all}
use Rattle.wire.proofs.Numbered.{has-number}
use Rattle.wire.proofs.Settling.{within-taken, settle-checked}
use Rattle.wire.proofs.Width.{bytes-cons}
use Rattle.text.specs.Text.{text_then_spaces, spaces_then_text}
use Rattle.text.proofs.Textual.{padded-left, text-bytes}
use Rattle.names.specs.Names.{name_bytes, name_of, user_bytes, user_of}
use Rattle.names.proofs.Packing.{name-again, user-again}
use Rattle.flat_packet.specs.declared.Packet.{Packet}
use Rattle.flat_packet.specs.declared.Read.{Read}
use Rattle.flat_packet.specs.Packets.{nothing, no_packet, the_packet, counted, broadcast}
use Rattle.flat_packet.specs.Fitting.{unfit, alone}

-- the body of a packet, by its place
abbrev pub body_of : Packet → List ℕ → List ℕ
body_of p d = take p.length (drop p.start d)

-- what stands behind a place, up to the end
pub body-behind : (start : ℕ) (d body : List ℕ) → length d ≡ start + length body → drop start d ≡ body
    → take (length d - start) (drop start d) ≡ body
body-behind start d body l e = rw (l, e, add-sub_cancel_left start (length body)) (take-length body)

-- numbered messages, with their blocks from a place on to the end, behind a header with so many extra bytes or with none
abbrev pub blocks_behind : (kind session number count extra start : ℕ) (body : List ℕ) → Read
blocks_behind kind session number count extra start body =
    the_packet (record {
      kind = kind;
      reason = 0;
      count = count;
      user = nothing.user;
      password = nothing.password;
      name = nothing.name;
      session = session;
      number = number;
      start = start;
      length = length body;
      next = 0;
      extra = extra;
    })

abbrev pub blocks : (kind session number count start : ℕ) (body : List ℕ) → Read
blocks kind session number count start body = blocks_behind kind session number count 0 start body

pub broadcast-blocks : (kind session number count extra start : ℕ) (body : List ℕ)
    → broadcast kind session number count extra start (start + length body) ≡ blocks_behind kind session number count extra start body
broadcast-blocks kind session number count extra start body = rw (add-sub_cancel_left start (length body))

pub counted-blocks : (kind session number count start : ℕ) (body : List ℕ)
    → counted kind session number count start (start + length body) ≡ blocks kind session number count start body
counted-blocks kind session number count start body = broadcast-blocks kind session number count 0 start body

-- n bytes, as text of that length is, padded on either side
abbrev pub Text : ℕ → List ℕ → Type 0
Text n s = (length s ≡ n) × Bytes s

pub padded-right-text : (n : ℕ) (s : List ℕ) → (length s ≡ n) × (text_then_spaces s ≡ true) → Text n s
padded-right-text n s f = (f.0, text-bytes s f.1)

pub padded-left-text : (n : ℕ) (s : List ℕ) → (length s ≡ n) × (spaces_then_text s ≡ true) → Text n s
padded-left-text n s f = (f.0, padded-left Bytes (λ i. omega arith) (λ b t low high. bytes-cons b t (omega arith)) s f.1)

-- packed and laid out again
pub same_name : (s : List ℕ) → Text 10 s → name_bytes (name_of s) ≡ s
same_name s t = name-again s t.1 t.0

pub same-user : (s : List ℕ) → Text 6 s → user_bytes (user_of s) ≡ s
same-user s t = user-again s t.1 t.0

-- the fields as C passes them, by their types
pub record Flat (p : Packet) : Type 0 where
  pub count : p.count < 2 ^ 16
  pub user : Text 6 p.user
  pub password : Text 10 p.password
  pub name : Text 10 p.name
  pub session : p.session < 2 ^ 64
  pub number : p.number < 2 ^ 64

-- ---- what was read

-- what is told as 0 was taken
pub told-as-0 : {A : Type 0} (flat : Verdict A → Read) (P : Read → Type 0)
    → ((why : Refusal) → flat (refused why) ≡ no_packet why)
    → (v : Verdict A)
    → ((a : A) → v ≡ taken a → P (flat (taken a)))
    → (flat v).refusal ≡ 0
    → P (flat v)
told-as-0 flat P refuses (refused why) h e = let z : number_of why ≡ 0 = rw refuses at e in
    absurd (eqb-false (number_of why) 0 (has-number why) z)
told-as-0 flat P refuses (taken a) h e = h a refl

-- the flat fields of a packet: its type byte is their kind, and with its body they are written as the same bytes
abbrev pub Round : (Packet → List ℕ → ℕ → Reply) → List ℕ → Packet → Type 0
Round reply d p = (p.kind ≡ get_or d 0 0) × ((room : ℕ) → reply p (body_of p d) room ≡ within room d)

-- what every lawful packet does, whatever was read does: it is lawful, and its bytes are those that it was read from
module _ {A : Type 0} (Fit : A → Type 0) (write : A → List ℕ) (flat : ℕ → Verdict A → Read) (reply : Packet → List ℕ → ℕ → Reply) where
  pub rounds : ((q : A) → Fit q → Round reply (write q) (flat (length (write q)) (taken q)).packet)
      → (d : List ℕ) (v : Verdict A)
      → ((q : A) → v ≡ taken q → Fit q × (write q ≡ d))
      → ((why : Refusal) → flat (length d) (refused why) ≡ no_packet why)
      → (flat (length d) v).refusal ≡ 0
      → Round reply d (flat (length d) v).packet
  rounds lawful d v exact refuses =
      told-as-0 (flat (length d)) (λ r. Round reply d r.packet) refuses v
      (λ q e. let l = exact q e in rw (← l.1) (lawful q l.0))

-- ---- what was written: a reply that was given

-- no packet that can't be, and no body with a type that has none
pub unfit-not-given : {C : Type 0} (limit size : ℕ) (why : Refusal) (d : List ℕ) → unfit limit size why ≡ taken d → C
unfit-not-given limit size why d =
    chosen (size at_most limit) (refused why) (refused Overlong) (taken d)
    (λ _. not-both (refused why) why d refl)
    (λ _. not-both (refused Overlong) Overlong d refl)

pub given-no-body : (limit size : ℕ) (body : List ℕ) (reply : Reply) (d : List ℕ) → alone limit size body reply ≡ taken d
    → (body ≡ []) × (reply ≡ taken d)
given-no-body limit size [] reply d e = (refl, e)
given-no-body limit size (x ∷ body) reply d e =
    unfit-not-given limit (size + length (x ∷ body)) Framing d (rw (ne_eqb (length (x ∷ body)) 0 (λ z. omega arith)) at e)

-- one of the types
pub given-by-kind : (P : ℕ → Type 0) (kind n : ℕ) (x y : Reply) (d : List ℕ) → (x ≡ taken d → P n) → (y ≡ taken d → P kind)
    → (if kind is n then x else y) ≡ taken d → P kind
given-by-kind P kind n x y d here there =
    chosen (kind is n) x y (taken d) (λ t e. rw (eqb-true kind n t) (here e)) (λ _. there)

-- and the packet that passed the reader's checks, so that it is taken
pub record Given {A : Type 0} (read : List ℕ → Verdict A) (cs : List Check) (q : A) (packet d : List ℕ) : Type 0 where
  pub passed : Passed cs
  pub same : packet ≡ d
  pub back : read d ≡ taken q

module _ {A : Type 0} (read : List ℕ → Verdict A) (cs : List Check) (q : A) (packet : List ℕ) (room : ℕ) (d : List ℕ) where
  pub given : (Passed cs → read packet ≡ taken q) → checked cs (within room packet) ≡ taken d → Given read cs q packet d
  given takes e =
      let c = all-passed cs (within room packet) d e in
      let same = within-taken room packet d c.1 in
      record { passed = c.0; same = same; back = rw (← same) (takes c.0) }

  pub settled : read packet ≡ checked cs (taken q) → settle (read packet) packet room ≡ taken d → Given read cs q packet d
  settled decide e =
      given (λ c. decide ∙ passed-all cs (taken q) c) (sym (settle-checked cs (taken q) packet room) ∙ rw decide at e)
