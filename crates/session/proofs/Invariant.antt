-- What holds of every state: the log hangs together, the record, its area and the deliveries tell nothing false of it, and it vouches for
-- every datagram that was sent and is no answer to a login. It holds at the start.
-- Assumes nothing.
use Prim.Native.Nat.{ℕ, ◌≤◌}
use mathlib.Core.Path.{◌≡◌, refl, sym, ◌∙◌}
use mathlib.Core.List.Memᴰ
use mathlib.Core.List.{List, [], ◌∷◌, Memᴰ}
use mathlib.Core.Bool.{Bool, true, false, not, false≢true, true≢false}
use native.Mathlib.Omega.{arith}
use borrow.Author.Tests.{le-leb}
use lib.ListN.{length}
use Rattle.wire.specs.Fields.{Bytes}
use Rattle.wire.specs.Checks.{taken, ◌else◌}
use Rattle.names.specs.Names.{name_bytes}
use Rattle.text.specs.Text.{blank, text_then_spaces}
use Rattle.wire.specs.declared.kinds.Name.{Name}
use Rattle.wire.specs.declared.refusal.Refusal.TheVariants.{Form, Absent}
use Rattle.wire.proofs.Checks.{all-passed}
use Rattle.blocks.specs.Blocks.{cut}
use Rattle.lent_log.specs.Log.{small, hangs}
use Rattle.held.specs.Slots.{area_size, slot_of}
use Rattle.held.proofs.Bitmap.{none-full}
use Rattle.held.proofs.Hangs.{none-in-place, none-sound}
use Rattle.record.specs.Record.{fresh, opening}
use Rattle.record.specs.declared.Record.{Record}
use Rattle.record.specs.declared.Session.TheVariants.{Ufo}
use Rattle.taking.proofs.Numbered.{is-held}
use Rattle.session.specs.Session.{State, logged, begin}
use Rattle.session.specs.Promise.{LoginAnswer}
use Rattle.session.proofs.Genuine.{Hold}
use Rattle.session.proofs.Logs.{Hung}
use Rattle.session.proofs.Line.{Wrote}
use Rattle.session.proofs.Recording.{Named}

-- the log vouches for a datagram
abbrev pub Vouches : State → List ℕ → Type 0
Vouches s d = Wrote (logged s) s.log.ended d

-- or it answers a login
pub data Sent (ms : List (List ℕ)) (over : Bool) (d : List ℕ) : Type 0 where
  tells : Wrote ms over d → Sent ms over d
  greets : LoginAnswer d → Sent ms over d

abbrev pub Known : State → List ℕ → Type 0
Known s d = Sent (logged s) s.log.ended d

pub record Inv (s : State) : Type 0 where
  pub hung : Hung s.log s.lent
  pub named : Named s.kept
  pub hold : Hold (logged s) s.log.ended s.kept s.area s.deliveries
  pub line : (d : List ℕ) → Memᴰ d s.down → Known s d

-- nothing goes back: not N, nor T, nor the end, nor the log, nor what was sent
pub record Later (s t : State) : Type 0 where
  pub next : s.kept.next.0 ≤ t.kept.next.0
  pub top : s.kept.top.0 ≤ t.kept.top.0
  pub over : s.kept.ended ≡ true → t.kept.ended ≡ true
  pub log : length (logged s) ≤ length (logged t)
  pub down : (d : List ℕ) → Memᴰ d s.down → Memᴰ d t.down
  pub up : (d : List ℕ) → Memᴰ d s.up → Memᴰ d t.up

pub record Good (s t : State) : Type 0 where
  pub inv : Inv t
  pub later : Later s t

pub stays_put : (s : State) → Inv s → Good s s
stays_put s i =
    record {
      inv = i;
      later = record {
        next = omega arith;
        top = omega arith;
        over = λ e. e;
        log = omega arith;
        down = λ d m. m;
        up = λ d m. m;
      };
    }

pub chain : {s t u : State} → Good s t → Good t u → Good s u
chain g h =
    let a = g.later in
    let b = h.later in
    record {
      inv = h.inv;
      later = record {
        next = omega arith;
        top = omega arith;
        over = λ e. b.over (a.over e);
        log = omega arith;
        down = λ d m. b.down d (a.down d m);
        up = λ d m. b.up d (a.up d m);
      };
    }

-- the start
none-logged : (lent area : List ℕ) (kept : Record) → logged (begin lent area kept) ≡ []
unfolding cut
none-logged lent area kept = refl

empty-hangs : (lent area : List ℕ) (kept : Record) → hangs (begin lent area kept).log lent ≡ true
unfolding hangs cut small
empty-hangs lent area kept = rw (le-leb 0 (length lent) (omega arith))

opened : (session : Name) (kept : Record) → opening session ≡ taken kept → Named kept × (kept ≡ fresh (Ufo session))
opened session kept e =
    let a = text_then_spaces (name_bytes session) in
    let b = not (blank (name_bytes session)) in
    let p = all-passed ((a else Form) ∷ (b else Absent) ∷ []) (taken (fresh (Ufo session))) kept e in
    let same : kept ≡ fresh (Ufo session) = cc p.1 in
    (rw same (record { name = session; ufo = refl; lawful = rw (p.0.0, p.0.1.0) }), same)

pub begins : (lent area : List ℕ) (session : Name) (kept : Record) → Bytes lent → area_size ≤ length area → opening session ≡ taken kept
    → Inv (begin lent area kept)
begins lent area session kept b l e =
    let o = opened session kept e in
    let h : Hold [] false (fresh (Ufo session)) area [] =
    record {
      begun = refl;
      one = omega arith;
      near = omega arith;
      known = omega arith;
      old = omega arith;
      final = λ x. absurd (false≢true x);
      placed = none-in-place 1 0;
      sound = none-sound area l;
      sent = λ n x. absurd (true≢false (sym (is-held 0 1 n x).full ∙ none-full (slot_of n)));
    } in
    record {
      hung = record { whole = empty-hangs lent area kept; bytes = b };
      named = o.0;
      hold = rw (none-logged lent area kept, o.1) h;
      line = λ d m. absurd (Memᴰ.not-nil m);
    }
