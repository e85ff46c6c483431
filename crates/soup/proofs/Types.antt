-- Soup's types: what holds of each of the ten, and of any byte that is none of them, holds of every type byte.
-- Assumes nothing.
use Prim.Native.Nat.{ℕ}
use mathlib.Core.Path.{◌≡◌}
use mathlib.Core.List.{List}
use mathlib.Core.Bool.{false}
use borrow.Author.Tests.{eqb-true}
use Rattle.wire.specs.Checks.{◌is◌, refused}
use Rattle.wire.specs.declared.refusal.Refusal.TheVariants.{UnknownType}
use Rattle.wire.proofs.Tests.{by-test}
use Rattle.soup.specs.Read.{by_type}

-- the ten: + A J S H Z L U R O
pub record Each (P : ℕ → Type 0) : Type 0 where
  pub debug : P 43
  pub accept : P 65
  pub reject : P 74
  pub sequenced : P 83
  pub server_heartbeat : P 72
  pub end_of_session : P 90
  pub login : P 76
  pub unsequenced : P 85
  pub client_heartbeat : P 82
  pub logout : P 79

-- none of them
abbrev pub Unknown : ℕ → Type 0
Unknown kind = Each (λ n. kind is n ≡ false)

module _ (P : ℕ → Type 0) (kind : ℕ) where
  this-or : (n : ℕ) → P n → (kind is n ≡ false → P kind) → P kind
  this-or n here other = by-test (kind is n) (λ t. rw (eqb-true kind n t) here) other

  pub every-type : Each P → (Unknown kind → P kind) → P kind
  every-type each unknown =
      this-or 43 each.debug (λ p.
      this-or 65 each.accept (λ a.
      this-or 74 each.reject (λ j.
      this-or 83 each.sequenced (λ s.
      this-or 72 each.server_heartbeat (λ h.
      this-or 90 each.end_of_session (λ z.
      this-or 76 each.login (λ l.
      this-or 85 each.unsequenced (λ u.
      this-or 82 each.client_heartbeat (λ r.
      this-or 79 each.logout (λ o.
      unknown (record {
        debug = p;
        accept = a;
        reject = j;
        sequenced = s;
        server_heartbeat = h;
        end_of_session = z;
        login = l;
        unsequenced = u;
        client_heartbeat = r;
        logout = o;
      })))))))))))

-- a byte that is none of them is refused as 3
pub unknown-is-3 : (kind : ℕ) (d : List ℕ) → Unknown kind → by_type kind d ≡ refused UnknownType
unknown-is-3 kind d u = rw (
  u.debug,
  u.accept,
  u.reject,
  u.sequenced,
  u.server_heartbeat,
  u.end_of_session,
  u.login,
  u.unsequenced,
  u.client_heartbeat,
  u.logout,
)
