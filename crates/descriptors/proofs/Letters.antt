-- Letters across case.
--   matches_exactly   two bytes match exactly when they are one byte, or one letter in its two cases
--   letters_alone     of two different bytes that match each is a letter
--   apart             bytes that are no letters match themselves alone
--   match-at          at a place of the mark to match is to be the byte there, or the one there in capitals
use mathlib.Core.Path.{◌≡◌, refl, sym, ap, ◌∙◌}
use mathlib.Core.Bool.{Bool, true, false, ◌&&◌, ◌||◌}
use mathlib.Core.List.{List}
use mathlib.Core.Logic.{◌↔◌, ⊎_elim, inl, inr}
use Prim.Native.Nat.{ℕ, ◌+◌, ◌-◌, ◌<◌, ◌≤◌}
use native.Mathlib.Omega.{arith}
use lib.Dec.{eqb, leb, ltb}
use borrow.Author.Tests.{eqb-true, eqb-false, eq-eqb, leb-true, le-leb, ltb-true}
use Rattle.base.specs.Bytes.{byte}
use Rattle.base.specs.Below.{every}
use Rattle.base.proofs.Below.{every-each}
use Rattle.base.proofs.Cases.{by, unlike, same_or, and_left, and_right}
use Rattle.descriptors.specs.Letter.{across_case, matches}
use Rattle.descriptors.specs.Mark.{mark}
use Rattle.descriptors.specs.Theorems.{AcrossCase, Letter, Matches, MatchesExactly, LettersAlone, Apart}

module _ (capital small : ℕ) where
  across-is : across_case capital small ≡ true → AcrossCase capital small
  unfolding across_case
  across-is e =
      let r : leb capital 90 && eqb small (capital + 32) ≡ true = and_right (leb 65 capital) _ e in
      let a : 65 ≤ capital = leb-true _ _ (and_left (leb 65 capital) _ e) in
      let z : capital ≤ 90 = leb-true _ _ (and_left (leb capital 90) _ r) in
      let s : small ≡ capital + 32 = eqb-true _ _ (and_right (leb capital 90) _ r) in
      record { after = capital - 65; within = omega arith; upper = omega arith; lower = omega arith }

  is-across : AcrossCase capital small → across_case capital small ≡ true
  unfolding across_case
  is-across w =
      let l = w.within in
      let u = w.upper in
      let s = w.lower in
      rw (le-leb 65 capital (omega arith), le-leb capital 90 (omega arith), eq-eqb small (capital + 32) (omega arith))

  -- what cannot be so is tested false
  not-across : (AcrossCase capital small → ⊥) → across_case capital small ≡ false
  not-across never = by (across_case capital small) (λ t. absurd (never (across-is t))) (λ f. f)

pub matches_exactly : MatchesExactly
unfolding matches
matches_exactly found marked = (to, from)
  where
    to : matches found marked ≡ true → Matches found marked
    to e =
        by (eqb found marked)
        (λ t. inl (eqb-true found marked t))
        (λ f.
        by (across_case found marked)
        (λ t. inr (inl (across-is found marked t)))
        (λ g. inr (inr (across-is marked found (rw (f, g) at e)))))

    from : Matches found marked → matches found marked ≡ true
    from =
        ⊎_elim
        (λ q. rw (eq-eqb found marked q))
        (λ w.
        by (eqb found marked)
        (λ t. rw t)
        (λ f.
        ⊎_elim
        (λ a. rw (f, is-across found marked a))
        (λ a. by (across_case found marked) (λ t. rw (f, t)) (λ g. rw (f, g) (is-across marked found a)))
        w))

letters-of : {capital small : ℕ} → AcrossCase capital small → Letter capital × Letter small
letters-of w =
    let l = w.within in
    let u = w.upper in
    let s = w.lower in
    (inl (omega arith, omega arith), inr (omega arith, omega arith))

pub letters_alone : LettersAlone
letters_alone found marked e ne =
    ⊎_elim
    (λ q. absurd (ne q))
    (⊎_elim letters-of (λ w. let l = letters-of w in (l.1, l.0)))
    ((matches_exactly found marked).0 e)

pub apart : Apart
unfolding matches across_case
apart =
    record {
      either = either;
      slash = λ b. alone b 47 (λ l. before l (omega arith));
      hyphen = λ b. alone b 45 (λ l. before l (omega arith));
      high = λ a b h. alone a b (behind h);
      carriage = refl;
      atsign = refl;
      bracket = refl;
      another = refl;
    }
  where
    -- a byte that is no letter matches itself alone
    alone : (found marked : ℕ) → (Letter marked → ⊥) → (matches found marked ≡ true) ↔ (found ≡ marked)
    alone found marked never = (
      λ e. ⊎_elim (λ q. q) (λ ne. absurd (never (letters_alone found marked e ne).1)) (same_or found marked),
      λ q. (matches_exactly found marked).1 (inl q),
    )

    before : {b : ℕ} → Letter b → b < 65 → ⊥
    before l h = ⊎_elim (λ w. let a = w.0 in omega arith) (λ w. let a = w.0 in omega arith) l

    behind : {b : ℕ} → 128 ≤ b → Letter b → ⊥
    behind h l = ⊎_elim (λ w. let z = w.1 in omega arith) (λ w. let z = w.1 in omega arith) l

    other : {a b : ℕ} → Matches a b → Matches b a
    other = ⊎_elim (λ q. inl (sym q)) (⊎_elim (λ w. inr (inr w)) (λ w. inr (inl w)))

    either : (a b : ℕ) → matches a b ≡ matches b a
    either a b =
        by (matches b a)
        (λ t. (matches_exactly a b).1 (other ((matches_exactly b a).0 t)) ∙ sym t)
        (λ f.
        by (matches a b)
        (λ t. absurd (unlike (sym ((matches_exactly b a).1 (other ((matches_exactly a b).0 t))) ∙ f)))
        (λ g. g ∙ sym f))

-- a byte of the mark and that byte in capitals: a small letter and its capital, or one byte that stands before the letters
abbrev paired : ℕ → ℕ → Bool
paired small capital = across_case capital small || (ltb small 65 && eqb small capital)

match-paired : (small capital : ℕ) → paired small capital ≡ true → (b : ℕ) → eqb b small || eqb b capital ≡ matches b small
unfolding matches
match-paired small capital p b =
    by (eqb b small)
    (λ t. rw t)
    (λ f. by (across_case capital small) (letter f) (λ g. other f (rw g at p)))
  where
    letter : eqb b small ≡ false → across_case capital small ≡ true → eqb b small || eqb b capital ≡ matches b small
    letter f t =
        let w = across-is capital small t in
        let l = w.within in
        let u = w.upper in
        let s = w.lower in
        let n : across_case small b ≡ false = not-across small b (λ v. let k = v.within in let x = v.upper in omega arith) in
        by (eqb b capital)
        (λ q. let e : b ≡ capital = eqb-true _ _ q in rw (f, q, ap (λ c. across_case c small) e, t))
        (λ q.
        let d : b ≡ capital → ⊥ = eqb-false _ _ q in
        rw (f, q, not-across b small (λ v. d (let x = v.upper in let y = v.lower in omega arith)), n))

    other : eqb b small ≡ false → ltb small 65 && eqb small capital ≡ true → eqb b small || eqb b capital ≡ matches b small
    other f e =
        let l : small < 65 = ltb-true _ _ (and_left (ltb small 65) _ e) in
        let q : small ≡ capital = eqb-true _ _ (and_right (ltb small 65) _ e) in
        rw (
          ← q,
          f,
          not-across b small (λ v. let y = v.lower in omega arith),
          not-across small b (λ v. let x = v.upper in omega arith),
        )

-- a list is the mark in capitals
pub record InCapitals (capitals : List ℕ) : Type 0 where
  pub each : every 24 (λ k. paired (byte mark k) (byte capitals k)) ≡ true

pub match-at : {capitals : List ℕ} → InCapitals capitals → (k : ℕ) → k < 24 → (b : ℕ)
    → eqb b (byte mark k) || eqb b (byte capitals k) ≡ matches b (byte mark k)
match-at {capitals} w k l =
    match-paired (byte mark k) (byte capitals k) (every-each (λ k. paired (byte mark k) (byte capitals k)) 24 k l w.each)
