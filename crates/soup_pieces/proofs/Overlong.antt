-- An overlong packet is refused once, at its 4,098th byte; the rest up to and with its linefeed is dropped, and what follows is read as
-- usual.
-- Assumes nothing.
use Prim.Native.Nat.{ℕ, ◌≤◌}
use mathlib.Core.Path.{◌≡◌, refl, sym, ap, ◌∙◌}
use mathlib.Core.List.{List, [], ◌∷◌, ◌++◌, append-nil}
use mathlib.Core.Bool.{true, false}
use native.Mathlib.Omega.{arith}
use lib.ListN.{length}
use Rattle.wire.specs.declared.refusal.Refusal.{Refusal}
use Rattle.wire.specs.declared.refusal.Refusal.TheVariants.{Overlong}
use Rattle.wire.proofs.Tests.{impossible}
use Rattle.soup.specs.Read.{unbroken}
use Rattle.soup.proofs.Linefeed.{more, append-unbroken}
use Rattle.soup_pieces.specs.Machine.{Machine, refusal, gives, Eaten, empty, eat, first, fates, fed, yielded}
use Rattle.soup_pieces.proofs.Cutting.{fed-cut, yielded-cut}
use Rattle.soup_pieces.proofs.Eats as eats
use Rattle.soup_pieces.proofs.Reaching.{first-given, first-used}
use Rattle.soup_pieces.proofs.Stretches.{holding, kept_on, overruns, drops-out}
use Rattle.soup_pieces.proofs.Whole.{Sound}

module _ (next : ℕ) where
  -- up to 4,097 bytes without a linefeed are kept
  pub not-before : (t : List ℕ) → unbroken t ≡ true → length t ≤ 4097
      → (yielded (fates (empty false next) t) ≡ []) × (fed (empty false next) t ≡ holding next t)
  unfolding first
  not-before t u h =
      first-used (empty false next) t (holding next t)
      (ap (first (empty false next)) (sym (append-nil t)) ∙ kept_on next [] t [] u (omega arith))

  -- the 4,098th is refused with them
  pub at-that-byte : (t : List ℕ) (b : ℕ) → unbroken t ≡ true → length t ≡ 4097 → (b ≡ 10 → ⊥)
      → (yielded (fates (empty false next) (t ++ b ∷ [])) ≡ refusal (t ++ b ∷ []) Overlong ∷ [])
      × (fed (empty false next) (t ++ b ∷ []) ≡ empty true next)
  unfolding fates fed yielded
  at-that-byte t b u l n = first-given (empty false next) (t ++ b ∷ []) _ (empty true next) [] (overruns next [] t [] b u n (omega arith))

  -- the rest is dropped
  pub rest-dropped : (r : List ℕ) → unbroken r ≡ true
      → (yielded (fates (empty true next) (r ++ 10 ∷ [])) ≡ []) × (fed (empty true next) (r ++ 10 ∷ []) ≡ empty false next)
  unfolding first
  rest-dropped r u = first-used (empty true next) (r ++ 10 ∷ []) (empty false next) (drops-out next r [] u)

  -- so of all of it nothing but that refusal is handed out, and then the desk is as before it
  pub refused-once : (t r : List ℕ) (b : ℕ) → unbroken t ≡ true → length t ≡ 4097 → (b ≡ 10 → ⊥) → unbroken r ≡ true
      → (yielded (fates (empty false next) (t ++ b ∷ [] ++ (r ++ 10 ∷ []))) ≡ refusal (t ++ b ∷ []) Overlong ∷ [])
      × (fed (empty false next) (t ++ b ∷ [] ++ (r ++ 10 ∷ [])) ≡ empty false next)
  refused-once t r b u l n v =
      let d = t ++ b ∷ [] in
      let o = at-that-byte t b u l n in
      let p = rest-dropped r v in (
        rw (yielded-cut (empty false next) d (r ++ 10 ∷ []), o.0, o.1, p.0),
        rw (fed-cut (empty false next) d (r ++ 10 ∷ []), o.1, p.1),
      )

-- none of the bytes that are refused at a byte other than a linefeed is one, from a state that is sound
pub none-among : (s : Machine) (b : ℕ) (d : List ℕ) (why : Refusal) → Sound s → (b ≡ 10 → ⊥) → (eat s b).fate ≡ gives (refusal d why)
    → unbroken d ≡ true
unfolding unbroken
none-among s b d why i n e = by (eat s b) (eats.eats s b) e where
  by : (x : Eaten) → eats.Eats s b x → x.fate ≡ gives (refusal d why) → unbroken d ≡ true
  by x (eats.dropped _) e = impossible cc
  by x (eats.kept _ _ _) e = impossible cc
  by x (eats.fit _ t p j) e = absurd (n t)
  by x (eats.unfit _ t m j) e = absurd (n t)
  by x (eats.overlong _ _ l) e =
      let same : eats.gathered s b ≡ d = cc in
      rw (← same) (append-unbroken s.kept (b ∷ []) i.whole (more b [] n refl))
