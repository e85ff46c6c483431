-- The machine eats byte by byte, so it does not matter where its food is cut.
-- Assumes nothing.
use mathlib.Core.Path.{◌≡◌, refl, ap}
use mathlib.Core.List.{List, [], ◌∷◌, ◌++◌}
use Prim.Native.Nat.{ℕ}
use Rattle.soup_pieces.specs.Machine.{Machine, Fate, keeps, drops, gives, eat, fates, fed, yielded}

pub fates-cut : (s : Machine) (a b : List ℕ) → fates s (a ++ b) ≡ fates s a ++ fates (fed s a) b
unfolding fates fed
fates-cut s [] b = refl
fates-cut s (x ∷ a) b = ap (λ (os : List Fate). (eat s x).fate ∷ os) (fates-cut (eat s x).machine a b)

pub fed-cut : (s : Machine) (a b : List ℕ) → fed s (a ++ b) ≡ fed (fed s a) b
unfolding fed
fed-cut s [] b = refl
fed-cut s (x ∷ a) b = fed-cut (eat s x).machine a b

yielded-append : (os ps : List Fate) → yielded (os ++ ps) ≡ yielded os ++ yielded ps
unfolding yielded
yielded-append [] ps = refl
yielded-append (keeps ∷ os) ps = yielded-append os ps
yielded-append (drops b ∷ os) ps = yielded-append os ps
yielded-append (gives h ∷ os) ps = rw (yielded-append os ps)

-- and so with what is handed out
pub yielded-cut : (s : Machine) (a b : List ℕ) → yielded (fates s (a ++ b)) ≡ yielded (fates s a) ++ yielded (fates (fed s a) b)
yielded-cut s a b = rw (fates-cut s a b) (yielded-append (fates s a) (fates (fed s a) b))
