-- How far a call goes: to the end of what was fed, with nothing handed out, or through the byte with which the first thing is handed out.
-- Assumes nothing.
use Prim.Native.Nat.{ℕ, ◌≤◌}
use mathlib.Core.Path.{◌≡◌, refl, ap, ◌∙◌}
use mathlib.Core.List.{List, [], ◌∷◌, ◌++◌}
use native.Mathlib.Omega.{arith}
use lib.ListN.{length}
use Rattle.soup_pieces.specs.Machine.{Machine, Yield, Fate, gives, Eaten, eat, fates, fed, yielded, First, used_up, given}
use Rattle.soup_pieces.specs.Machine.{unless_given, first}
use Rattle.soup_pieces.proofs.Cutting.{yielded-cut, fed-cut}
use Rattle.soup_pieces.proofs.Eats as eats

-- something is handed out, and nothing before it: it ends with the last of the bytes that were eaten, of which there is one at least
pub record As-far (s : Machine) (bs : List ℕ) (h : Yield) (t : Machine) (left : List ℕ) : Type 0 where
  pub eaten : List ℕ
  pub some : 1 ≤ length eaten
  pub cut : bs ≡ eaten ++ left
  pub gave : yielded (fates s eaten) ≡ h ∷ []
  pub then : fed s eaten ≡ t
  pub empty : t.kept ≡ []

abbrev pub Goes : Machine → List ℕ → First → Type 0
Goes s bs (used_up t) = (yielded (fates s bs) ≡ []) × (fed s bs ≡ t)
Goes s bs (given h t left) = As-far s bs h t left

-- one byte in front that hands nothing out
further : (s : Machine) (b : ℕ) (bs : List ℕ) → ((os : List Fate) → yielded ((eat s b).fate ∷ os) ≡ yielded os) → (f : First)
    → Goes (eat s b).machine bs f → Goes s (b ∷ bs) f
unfolding fates fed
further s b bs n (used_up t) g = (n (fates (eat s b).machine bs) ∙ g.0, g.1)
further s b bs n (given h t left) g = record {
  eaten = b ∷ g.eaten;
  some = omega arith;
  cut = ap (λ (l : List ℕ). b ∷ l) g.cut;
  gave = n (fates (eat s b).machine g.eaten) ∙ g.gave;
  then = g.then;
  empty = g.empty;
}

-- one byte with which something is handed out
here : (s : Machine) (b : ℕ) (bs : List ℕ) (h : Yield) (t : Machine) → eat s b ≡ record { fate = gives h; machine = t } → t.kept ≡ []
    → As-far s (b ∷ bs) h t bs
unfolding fates fed yielded
here s b bs h t e k = record {
  eaten = b ∷ [];
  some = omega arith;
  cut = refl;
  gave = rw e;
  then = ap (λ (x : Eaten). x.machine) e;
  empty = k;
}

pub goes : (s : Machine) (bs : List ℕ) → Goes s bs (first s bs)
unfolding first fates fed yielded
goes s [] = (refl, refl)
goes s (b ∷ bs) = by (eat s b) refl (eats.eats s b) (goes (eat s b).machine bs) where
  by : (x : Eaten) → eat s b ≡ x → eats.Eats s b x → Goes (eat s b).machine bs (first (eat s b).machine bs)
      → Goes s (b ∷ bs) (unless_given (eat s b).fate (eat s b).machine bs (first (eat s b).machine bs))
  by x q (eats.dropped _) g = rw q (rw q at (further s b bs (λ os. rw q) (first (eat s b).machine bs) g))
  by x q (eats.kept _ _ _) g = rw q (rw q at (further s b bs (λ os. rw q) (first (eat s b).machine bs) g))
  by x q (eats.fit _ _ p j) g = rw q (here s b bs _ _ q refl)
  by x q (eats.unfit _ _ why j) g = rw q (here s b bs _ _ q refl)
  by x q (eats.overlong _ _ l) g = rw q (here s b bs _ _ q refl)

-- what is handed out after that, and the state in the end, are those of the rest
pub then-on : {s : Machine} {bs : List ℕ} {h : Yield} {t : Machine} {left : List ℕ} → As-far s bs h t left
    → (yielded (fates s bs) ≡ h ∷ yielded (fates t left)) × (fed s bs ≡ fed t left)
then-on {s} {bs} {h} {t} {left} g =
    (rw (g.cut, yielded-cut s g.eaten left, g.then, g.gave), rw (g.cut, fed-cut s g.eaten left, g.then))

-- the same by how far a call goes
pub first-given : (s : Machine) (bs : List ℕ) (h : Yield) (t : Machine) (left : List ℕ) → first s bs ≡ given h t left
    → (yielded (fates s bs) ≡ h ∷ yielded (fates t left)) × (fed s bs ≡ fed t left)
first-given s bs h t left e = then-on (rw e at (goes s bs))

pub first-used : (s : Machine) (bs : List ℕ) (t : Machine) → first s bs ≡ used_up t → (yielded (fates s bs) ≡ []) × (fed s bs ≡ t)
first-used s bs t e = rw e at (goes s bs)
