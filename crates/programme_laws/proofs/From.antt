-- What stands in bytes from a place on.
--   long           the bytes are those before the place, and these
--   after, next    behind some of them stand the others
--   byte_of        the byte at a place further on
--   from-there     from any place in the bytes
use mathlib.Core.Path.{◌≡◌, refl, sym, ap, ◌∙◌}
use mathlib.Core.List.{List, [], ◌∷◌, ◌++◌}
use Prim.Native.Nat.{ℕ, ◌+◌, ◌≤◌}
use native.Mathlib.Omega.{arith}
use lib.ListN.{length, drop, length-drop, length-append}
use lib.Seq.{drop-drop, drop-append_seam, get_or-drop}
use Rattle.base.specs.Bytes.{byte}

-- from a place on these stand, and the place is in the bytes or at their end
pub record From (s : List ℕ) (at : ℕ) (r : List ℕ) : Type 0 where
  pub rest : drop at s ≡ r
  pub within : at ≤ length s

module _ {s : List ℕ} {at : ℕ} where
  pub long : {r : List ℕ} → From s at r → length s ≡ at + length r
  long {r} f =
      let e : length (drop at s) ≡ length r = ap length f.rest in
      let w : at ≤ length s = f.within in
      omega (arith, length-drop at s)

  pub after : (a r : List ℕ) → From s at (a ++ r) → From s (at + length a) r
  after a r f =
      record {
        rest = sym (drop-drop (length a) at s) ∙ ap (drop (length a)) f.rest ∙ drop-append_seam a r;
        within = omega (arith, long f, length-append a r);
      }

  pub next : (x : ℕ) (r : List ℕ) → From s at (x ∷ r) → From s (at + 1) r
  next x r f = after (x ∷ []) r f

  pub byte_of : {r : List ℕ} → From s at r → (k : ℕ) → byte s (at + k) ≡ byte r k
  byte_of {r} f k = sym (get_or-drop at s k 0) ∙ ap (λ l. byte l k) f.rest

  pub first_byte : (x : ℕ) (r : List ℕ) → From s at (x ∷ r) → byte s at ≡ x
  first_byte x r f = let e : at + 0 ≡ at = omega arith in ap (byte s) (sym e) ∙ byte_of f 0

pub from-there : (s : List ℕ) (at : ℕ) → at ≤ length s → From s at (drop at s)
from-there s at h = record { rest = refl; within = h }
