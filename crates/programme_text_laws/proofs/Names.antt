-- A name can be told back from its line (`specs/Theorems.antt` has the words).
--   name_told
use mathlib.Core.Path.{◌≡◌, refl, sym, ap, ◌∙◌}
use mathlib.Core.Bool.{true, false}
use mathlib.Core.List.{List, [], ◌∷◌, ◌++◌, append_assoc}
use Prim.Native.Nat.{ℕ, suc, ◌/◌, ◌%◌, ◌<◌}
use native.Mathlib.Omega.{arith}
use lib.Dec.{ltb}
use lib.ListN.{get_or, drop}
use borrow.Author.Tests.{ltb-true, ltb-false}
use Rattle.base.specs.Octets.{Octets}
use Rattle.base.proofs.Cases.{by, unlike}
use Rattle.file_listing.specs.Words.{newline}
use Rattle.text.specs.Words.{hex_digit, plain, shown, escaped}
use Rattle.programme_lines.specs.Lines.{name_line}
use Rattle.programme_text_laws.specs.Theorems.{NameTold}

hex-told : (d e : ℕ) → d < 16 → e < 16 → hex_digit d ≡ hex_digit e → d ≡ e
unfolding hex_digit
hex-told d e l m h =
    by (ltb d 10)
    (λ t.
    by (ltb e 10)
    (λ u. let g = rw (t, u) at h in omega arith)
    (λ v. let g = rw (t, v) at h in let q = ltb-true d 10 t in let p = ltb-false e 10 v in omega arith))
    (λ f.
    by (ltb e 10)
    (λ u. let g = rw (f, u) at h in let q = ltb-true e 10 u in let p = ltb-false d 10 f in omega arith)
    (λ v. let g = rw (f, v) at h in omega arith))

-- how a byte is shown that is shown as it is, and any other
as-it-is : (x : ℕ) → plain x ≡ true → shown x ≡ x ∷ []
unfolding shown
as-it-is x t = rw t

as-digits : (x : ℕ) → plain x ≡ false → shown x ≡ 92 ∷ 120 ∷ hex_digit (x / 16) ∷ hex_digit (x % 16) ∷ []
unfolding shown
as-digits x f = rw f

-- a backslash is not shown as it is, so no byte that is begins like another
not-both : (x y : ℕ) (a b : List ℕ) → plain x ≡ true → plain y ≡ false → shown x ++ a ≡ shown y ++ b → ⊥
unfolding plain
not-both x y a b t f e =
    let g : x ∷ a ≡ 92 ∷ 120 ∷ hex_digit (y / 16) ∷ hex_digit (y % 16) ∷ b = rw (as-it-is x t, as-digits y f) at e in
    let same : x ≡ 92 = ap (λ l. get_or l 0 0) g in
    let none : plain 92 ≡ false = refl in
    unlike (sym t ∙ ap plain same ∙ none)

-- the first bytes are the same, and what follows them is shown alike
pub record Alike (x y : ℕ) (a b : List ℕ) : Type 0 where
  pub first : x ≡ y
  pub rest : a ≡ b

alike : (x y : ℕ) (a b : List ℕ) → x < 256 → y < 256 → shown x ++ a ≡ shown y ++ b → Alike x y a b
alike x y a b l m e =
    by (plain x)
    (λ t.
    by (plain y)
    (λ u.
    let g : x ∷ a ≡ y ∷ b = rw (as-it-is x t, as-it-is y u) at e in
    record { first = ap (λ l. get_or l 0 0) g; rest = ap (drop 1) g })
    (λ v. absurd (not-both x y a b t v e)))
    (λ f.
    by (plain y)
    (λ u. absurd (not-both y x b a u f (sym e)))
    (λ v.
    let g : 92 ∷ 120 ∷ hex_digit (x / 16) ∷ hex_digit (x % 16) ∷ a ≡ 92 ∷ 120 ∷ hex_digit (y / 16) ∷ hex_digit (y % 16) ∷ b = rw (as-digits x f, as-digits y v) at e in
    let high : x / 16 ≡ y / 16 = hex-told (x / 16) (y / 16) (omega arith) (omega arith) (ap (λ l. get_or l 2 0) g) in
    let low : x % 16 ≡ y % 16 = hex-told (x % 16) (y % 16) (omega arith) (omega arith) (ap (λ l. get_or l 3 0) g) in
    record { first = omega arith; rest = ap (drop 4) g }))

-- nothing that is shown of a byte begins with a newline
no-newline : (x : ℕ) (a r : List ℕ) → shown x ++ a ≡ 10 ∷ r → ⊥
unfolding plain
no-newline x a r e =
    by (plain x)
    (λ t.
    let g : x ∷ a ≡ 10 ∷ r = rw (as-it-is x t) at e in
    let same : x ≡ 10 = ap (λ l. get_or l 0 0) g in
    let none : plain 10 ≡ false = refl in
    unlike (sym t ∙ ap plain same ∙ none))
    (λ f.
    let g : 92 ∷ 120 ∷ hex_digit (x / 16) ∷ hex_digit (x % 16) ∷ a ≡ 10 ∷ r = rw (as-digits x f) at e in
    let same : ◌≡◌ {A = ℕ} 92 10 = ap (λ l. get_or l 0 0) g in
    omega arith)

-- what is shown of a name, up to the newline behind it
shown-told : (a b r t : List ℕ) → Octets a → Octets b → escaped a ++ (10 ∷ r) ≡ escaped b ++ (10 ∷ t) → a ≡ b
unfolding escaped
shown-told [] [] r t o p e = refl
shown-told [] (y ∷ b) r t o p e = absurd (no-newline y (escaped b ++ (10 ∷ t)) r (sym (append_assoc (shown y) (escaped b) (10 ∷ t)) ∙ sym e))
shown-told (x ∷ a) [] r t o p e = absurd (no-newline x (escaped a ++ (10 ∷ r)) t (sym (append_assoc (shown x) (escaped a) (10 ∷ r)) ∙ e))
shown-told (x ∷ a) (y ∷ b) r t o p e =
    let h = alike x y (escaped a ++ (10 ∷ r)) (escaped b ++ (10 ∷ t)) (o 0) (p 0)
    (sym (append_assoc (shown x) (escaped a) (10 ∷ r)) ∙ e ∙ append_assoc (shown y) (escaped b) (10 ∷ t)) in
    rw (h.first, shown-told a b r t (λ k. o (suc k)) (λ k. p (suc k)) h.rest)

pub name_told : NameTold
unfolding name_line
name_told a b r t o p e =
    let g : (escaped a ++ newline) ++ r ≡ (escaped b ++ newline) ++ t = ap (drop 5) e in
    shown-told a b r t o p (sym (append_assoc (escaped a) newline r) ∙ g ∙ append_assoc (escaped b) newline t)
