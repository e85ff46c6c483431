-- States that hang together stay so; and in them nothing is lost: what was handed out, refused, dropped and kept, in order, is what was
-- fed.
-- Assumes nothing.
use Prim.Native.Nat.{ℕ, ◌+◌, ◌≤◌}
use mathlib.Core.Path.{◌≡◌, refl, sym, ap, ◌∙◌}
use mathlib.Core.List.{List, [], ◌∷◌, ◌++◌, append_assoc, append-nil}
use mathlib.Core.Bool.{Bool, true, true≢false}
use native.Mathlib.Omega.{arith}
use lib.ListN.{length, length-append}
use Rattle.soup.specs.Read.{unbroken}
use Rattle.soup.proofs.Linefeed.{more, append-unbroken}
use Rattle.soup_pieces.specs.Machine.{Machine, Eaten, empty, eat, fates, fed, spent}
use Rattle.soup_pieces.proofs.Eats.{gathered, Eats, dropped, kept, fit, unfit, overlong, eats}

-- at most 4,097 bytes are kept, no linefeed among them, and none while dropping
pub record Sound (s : Machine) : Type 0 where
  pub few : length s.kept ≤ 4097
  pub whole : unbroken s.kept ≡ true
  pub none : s.dropping ≡ true → s.kept ≡ []

pub empty-sound : (dropping : Bool) (next : ℕ) → Sound (empty dropping next)
unfolding unbroken
empty-sound dropping next = record { few = omega arith; whole = refl; none = λ d. refl }

pub eaten-sound : (s : Machine) (b : ℕ) → Sound s → Sound (eat s b).machine
unfolding unbroken
eaten-sound s b i = by (eat s b) (eats s b) where
  by : (x : Eaten) → Eats s b x → Sound x.machine
  by x (dropped _) = empty-sound _ _
  by x (kept _ n l) = record {
    few = let m : length (gathered s b) ≡ length s.kept + 1 = simp length-append (omega arith) in omega (arith, i.few);
    whole = append-unbroken s.kept (b ∷ []) i.whole (more b [] n refl);
    none = λ d. absurd (true≢false (sym d));
  }
  by x (fit _ _ p j) = empty-sound _ _
  by x (unfit _ _ why j) = empty-sound _ _
  by x (overlong _ _ l) = empty-sound _ _

pub sound-fed : (s : Machine) (bs : List ℕ) → Sound s → Sound (fed s bs)
unfolding fed
sound-fed s [] i = i
sound-fed s (b ∷ bs) i = sound-fed (eat s b).machine bs (eaten-sound s b i)

pub nothing-lost : (s : Machine) (bs : List ℕ) → Sound s → spent (fates s bs) ++ (fed s bs).kept ≡ s.kept ++ bs
unfolding fates fed spent
nothing-lost s [] i = sym (append-nil s.kept)
nothing-lost s (b ∷ bs) i = by (eat s b) (eats s b) (nothing-lost (eat s b).machine bs (eaten-sound s b i)) where
  out : (rest k : List ℕ) → rest ++ k ≡ bs → gathered s b ++ rest ++ k ≡ s.kept ++ b ∷ bs
  out rest k e = append_assoc (gathered s b) rest k ∙ rw e (append_assoc s.kept (b ∷ []) bs)

  by : (x : Eaten) → Eats s b x → spent (fates x.machine bs) ++ (fed x.machine bs).kept ≡ x.machine.kept ++ bs
      → spent (x.fate ∷ fates x.machine bs) ++ (fed x.machine bs).kept ≡ s.kept ++ b ∷ bs
  by x (dropped d) e = rw (i.none d) (ap (λ (l : List ℕ). b ∷ l) e)
  by x (kept _ n l) e = e ∙ append_assoc s.kept (b ∷ []) bs
  by x (fit _ _ p j) e = out _ _ e
  by x (unfit _ _ why j) e = out _ _ e
  by x (overlong _ _ l) e = out _ _ e
