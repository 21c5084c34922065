-- 11 in document 01's three phrases (`Unreadable`), and that the reading keeps to them.
--   unreadable-exactly   11 is given exactly when the number is cut off, not shortest, or above 65,535
--   only-11              no other number is given
use mathlib.Core.Path.{◌≡◌, refl, sym, ap, ◌∙◌}
use mathlib.Core.Bool.{Bool, true, false, ◌||◌}
use mathlib.Core.List.{List, [], ◌∷◌, ◌++◌}
use mathlib.Core.Logic.{◌↔◌, ⊎_elim, inl, inr}
use Prim.Native.Nat.{ℕ, ◌+◌, ◌<◌, ◌≤◌}
use native.Mathlib.Omega.{arith}
use lib.Dec.{ltb, eqb}
use lib.ListN.{length, length-append}
use borrow.Author.Tests.{lt-ltb, le-ltb, ltb-true, ltb-false, eqb-true}
use Rattle.base.specs.Tables.{Decides}
use Rattle.base.proofs.Cases.{by, unlike, and_left, and_right}
use Rattle.file_number.specs.Number.{largest, groups, worth, cut_off, last_is_zero, not_shortest, numeral, number_in}
use Rattle.file_number.specs.Unreadable.{Continued, Groups, CutOff, NotShortest, AboveLargest, Unreadable}
use Rattle.std.specs.Prelude.{Ok, Err}
use Rattle.refusal.specs.declared.Refusal.{Refusal}
use Rattle.refusal.specs.declared.Refusal.TheVariants.{BadNumber}

cut-so : (s : List ℕ) → Decides (cut_off s) (CutOff s)
unfolding cut_off
cut-so [] = (λ _. tt, λ _. refl)
cut-so (b ∷ s) =
    by (ltb b 128)
    (λ t.
    let l : b < 128 = ltb-true b 128 t in
    rw t (λ e. absurd (unlike (sym e)), λ c. absurd (let h : 128 ≤ b = c.0 in omega arith)))
    (λ f. rw f (λ e. (ltb-false b 128 f, (cut-so s).0 e), λ c. (cut-so s).1 c.1))

-- what the groups that stand there say
record Told (s more : List ℕ) (last : ℕ) : Type 0 where
  whole : cut_off s ≡ false
  all : groups s ≡ more ++ (last ∷ [])
  zero_last : last_is_zero s ≡ eqb last 0

told : (s more rest : List ℕ) (last : ℕ) → s ≡ more ++ (last ∷ rest) → Continued more → last < 128 → Told s more last
unfolding cut_off groups last_is_zero
told s [] rest last e c l =
    rw e (record { whole = rw (lt-ltb last 128 l); all = rw (lt-ltb last 128 l); zero_last = rw (lt-ltb last 128 l) })
told s (b ∷ more) rest last e c l =
    let w = told (more ++ (last ∷ rest)) more rest last refl c.1 l in
    let h : ltb b 128 ≡ false = le-ltb b 128 c.0 in
    rw e
    (record {
      whole = rw h w.whole;
      all = rw h (ap (λ g. b ∷ g) w.all);
      zero_last = rw h w.zero_last;
    })

pub record Found (s : List ℕ) : Type 0 where
  pub more : List ℕ
  pub last : ℕ
  pub here : Groups s more last

-- bytes that are not cut off have groups at their front
pub found : (s : List ℕ) → cut_off s ≡ false → Found s
unfolding cut_off
found [] c = absurd (unlike c)
found (b ∷ s) c =
    by (ltb b 128)
    (λ t. record { more = []; last = b; here = record { rest = s; stand = refl; go_on = tt; ends = ltb-true b 128 t } })
    (λ f.
    let w = found s (rw f at c) in
    record {
      more = b ∷ w.more;
      last = w.last;
      here =
          record {
            rest = w.here.rest;
            stand = ap (λ l. b ∷ l) w.here.stand;
            go_on = (ltb-false b 128 f, w.here.go_on);
            ends = w.here.ends;
          };
    })

module _ (s : List ℕ) where
  abbrev bad : Bool
  bad = cut_off s || (not_shortest s || ltb largest (worth (groups s)))

  groups-told : (more : List ℕ) (last : ℕ) → Groups s more last → Told s more last
  groups-told more last g = told s more g.rest last g.stand g.go_on g.ends

  short-bad : NotShortest s → bad ≡ true
  short-bad (more, some, g) =
      let w = groups-told more 0 g in
      let l : 1 < length (more ++ (0 ∷ [])) = simp length-append (omega arith) in
      rw (w.whole, w.all, w.zero_last, lt-ltb 1 (length (more ++ (0 ∷ []))) l)

  above-bad : AboveLargest s → bad ≡ true
  above-bad (more, last, g, l) =
      let w = groups-told more last g in
      by (not_shortest s) (λ t. rw (w.whole, t)) (λ f. rw (w.whole, f, w.all) (lt-ltb largest (worth (more ++ (last ∷ []))) l))

  bad-says : bad ≡ true → Unreadable s
  bad-says e =
      by (cut_off s)
      (λ t. inl ((cut-so s).0 t))
      (λ f.
      let k = found s f in
      let w = groups-told k.more k.last k.here in
      by (not_shortest s)
      (λ t.
      let l : 1 < length (k.more ++ (k.last ∷ [])) = rw (← w.all) (ltb-true 1 (length (groups s)) (and_left (ltb 1 (length (groups s))) (last_is_zero s) t)) in
      let m : 1 < length k.more + 1 = rw (length-append) at l in
      let z : k.last ≡ 0 = eqb-true _ _ (sym w.zero_last ∙ and_right (ltb 1 (length (groups s))) (last_is_zero s) t) in
      inr (inl (k.more, omega arith, rw (← z) k.here)))
      (λ h.
      let l : largest < worth (groups s) = ltb-true _ _ (rw (f, h) at e) in
      inr (inr (k.more, k.last, k.here, rw (← w.all) l))))

  decided : Decides bad (Unreadable s)
  decided = (bad-says, λ u. ⊎_elim (λ c. rw ((cut-so s).1 c)) (λ v. ⊎_elim short-bad above-bad v) u)

  module _ (at : ℕ) where
    pub unreadable-exactly : (number_in s at ≡ Err BadNumber) ↔ Unreadable s
    unfolding number_in
    unreadable-exactly = (
      λ e.
          by bad
          (λ t. bad-says t)
          (λ f. let q : Ok (numeral (worth (groups s)) (at + length (groups s))) ≡ Err BadNumber = rw f at e in cc),
      λ u. rw (decided.1 u),
    )

    pub only-11 : (r : Refusal) → number_in s at ≡ Err r → r ≡ BadNumber
    unfolding number_in
    only-11 r e =
        by bad
        (λ t. let q : Err BadNumber ≡ Err r = rw t at e in cc)
        (λ f. let q : Ok (numeral (worth (groups s)) (at + length (groups s))) ≡ Err r = rw f at e in cc)
