-- Laws on a scan of the first n of an array.
--   from-here     what is left to scan begins with the next one
--   from_end      at the end nothing is left
--   gather-step, gather-end              a scan for one that passes, looking at all
--   scan-step, scan-end                  the same of a whole list
--   same-found, same_more                a scan for two equal numbers
--   same-none, one-part, four-parts      what a pattern leaves of a list
--   two-of-four, four-found, four-more   the same, four at a time
--   numbered-none, numbered_more         the numbers of the held
--   two-alike-same                       two are equal exactly where two of the held are alike
--   take_within   past the array's end there is no more
use mathlib.Core.Path.{◌≡◌, refl, sym, ap, ◌∙◌}
use mathlib.Core.List.{List, [], ◌∷◌, map}
use mathlib.Core.Bool.{Bool, true, false, ◌||◌}
use Prim.Native.Nat.{ℕ, suc, ◌+◌, ◌-◌, ◌<◌, ◌≤◌, min}
use lib.Dec.{ltb, eqb}
use borrow.Author.Tests.{ltb-true, ltb-false}
use Rattle.base.proofs.Cases.{by}
use Rattle.clock_activation.specs.declared.Held.{Held}
use Rattle.clock_activation.specs.Activation.{nobody}
use native.Mathlib.Numerals.{add-one}
use native.Mathlib.Omega.{arith}
use lib.ListN.{length, take, drop, get_or, drop_of_length-le, set}
use lib.Seq.{drop-cons, get_or-take, length-take-le, take_all, take-suc, take-suc-set}
use Rattle.clock_activation.specs.Code.{Coded, Narrow}
use Rattle.clock_activation.proofs.Codes.{code_alike}
use Rattle.clock_record.specs.Lists.{any_of, All}
use Rattle.clock_record.specs.Held.{is_held, two_alike}
use Rattle.clock_record.specs.Codes.{one_of, two_same, code_held, Numbered}
use Rattle.clock_record.proofs.Lists.{all_append, map-append}

module _ {A : Type 0} (l : List A) (n : ℕ) (fits : n ≤ length l) where
  pub from-here : (i : ℕ) (d : A) → i < n → drop i (take n l) ≡ get_or l i d ∷ drop (i + 1) (take n l)
  from-here i d h = let e : length (take n l) ≡ n = length-take-le n l fits in rw (add-one, drop-cons (take n l) i d (omega arith), get_or-take)

  pub from_end : (i : ℕ) → n ≤ i → drop i (take n l) ≡ []
  from_end i h = drop_of_length-le (take n l) {i = i} (let e : length (take n l) ≡ n = length-take-le n l fits in omega arith)

-- past the array's end there is no more
pub take_within : {A : Type 0} (n : ℕ) (l : List A) (k : ℕ) → length l ≡ k → take (min n k) l ≡ take n l
take_within n l k e =
    by (ltb n k)
    (λ t. let h : n < k = ltb-true _ _ t in ap (λ (m : ℕ). take m l) (let g : min n k ≡ n = omega arith in g))
    (λ t.
    let h : k ≤ n = ltb-false _ _ t in
    let g : min n k ≡ k = omega arith in
    rw (g, take_all k l (omega arith), take_all n l (omega arith)))

or-join : (f p r : Bool) → f || (p || r) ≡ (f || p) || r
or-join true p r = refl
or-join false p r = refl

or-false : (f : Bool) → f || false ≡ f
or-false true = refl
or-false false = refl

-- a scan that gathers: what was found, or is among what is left
module _ {A : Type 0} (l : List A) (n : ℕ) (fits : n ≤ length l) (p : A → Bool) (d : A) (found : Bool) (i : ℕ) where
  pub gather-step : i < n → (found || p (get_or l i d)) || any_of p (drop (i + 1) (take n l)) ≡ found || any_of p (drop i (take n l))
  unfolding any_of
  gather-step h = rw (from-here l n fits i d h) (sym (or-join found (p (get_or l i d)) (any_of p (drop (i + 1) (take n l)))))

  pub gather-end : n ≤ i → found ≡ found || any_of p (drop i (take n l))
  unfolding any_of
  gather-end h = rw (from_end l n fits i h) (sym (or-false found))

-- the same of a whole list
module _ {A : Type 0} (l : List A) (p : A → Bool) (d : A) (found : Bool) (i : ℕ) where
  pub scan-step : i < length l → (found || p (get_or l i d)) || any_of p (drop (i + 1) l) ≡ found || any_of p (drop i l)
  unfolding any_of
  scan-step h = rw (add-one, drop-cons l i d h) (sym (or-join found (p (get_or l i d)) (any_of p (drop (suc i) l))))

  pub scan-end : length l ≤ i → found ≡ found || any_of p (drop i l)
  unfolding any_of
  scan-end h = rw (drop_of_length-le l {i = i} h) (sym (or-false found))

-- two numbers of a list are equal: one, and what follows it
module _ (x : ℕ) (l : List ℕ) where
  pub same-found : any_of (eqb x) l ≡ true → two_same (x ∷ l) ≡ true
  unfolding two_same
  same-found t = rw t

  pub same_more : any_of (eqb x) l ≡ false → two_same (x ∷ l) ≡ two_same l
  unfolding two_same
  same_more t = rw t

-- none is left
pub same-none : (l : List ℕ) → length l < 1 → two_same l ≡ false
unfolding two_same
same-none [] h = refl
same-none (x ∷ l) h = absurd (omega arith)

-- the first of a list and what follows, as a pattern takes them
pub one-part : (l : List ℕ) → 1 ≤ length l → l ≡ get_or l 0 0 ∷ take (length l - 1) (drop 1 l)
one-part [] h = absurd (omega arith)
one-part (x ∷ l) h = ap (◌∷◌ x) (sym (take_all (suc (length l) - 1) l (omega arith)))

pub four-parts : (l : List ℕ) → 4 ≤ length l
    → l ≡ get_or l 0 0 ∷ get_or l 1 0 ∷ get_or l 2 0 ∷ get_or l 3 0 ∷ take (length l - 4) (drop 4 l)
four-parts [] h = absurd (omega arith)
four-parts (a ∷ []) h = absurd (omega arith)
four-parts (a ∷ b ∷ []) h = absurd (omega arith)
four-parts (a ∷ b ∷ c ∷ []) h = absurd (omega arith)
four-parts (a ∷ b ∷ c ∷ d ∷ l) h =
    ap (λ (t : List ℕ). a ∷ b ∷ c ∷ d ∷ t) (sym (take_all (suc (suc (suc (suc (length l)))) - 4) l (omega arith)))

-- two of four are equal, by the six pairs
six : (p q r s t u : Bool)
    → ((((p || q) || r) || s) || t) || u ≡ (p || (q || (r || false))) || ((s || (t || false)) || ((u || false) || (false || false)))
six true q r s t u = refl
six false true r s t u = refl
six false false true s t u = refl
six false false false true t u = refl
six false false false false true u = refl
six false false false false false true = refl
six false false false false false false = refl

pub two-of-four : (a b c d : ℕ)
    → ((((eqb a b || eqb a c) || eqb a d) || eqb b c) || eqb b d) || eqb c d ≡ two_same (a ∷ b ∷ c ∷ d ∷ [])
unfolding two_same any_of
two-of-four a b c d = six (eqb a b) (eqb a c) (eqb a d) (eqb b c) (eqb b d) (eqb c d)

-- one of four passes somewhere exactly where each of them does somewhere
mixed : (p q r s k l m n : Bool) → (((p || q) || r) || s) || (k || (l || (m || n))) ≡ (p || k) || ((q || l) || ((r || m) || (s || n)))
mixed true q r s k l m n = refl
mixed false q r s true l m n = by (q) (λ t. rw t) λ f. by r (λ t. rw (f, t)) λ g. by s (λ t. rw (f, g, t)) λ h. rw (f, g, h)
mixed false true r s false l m n = refl
mixed false false r s false true m n = by r (λ t. rw t) λ g. by s (λ t. rw (g, t)) λ h. rw (g, h)
mixed false false true s false false m n = refl
mixed false false false s false false true n = by s (λ t. rw t) λ h. rw h
mixed false false false true false false false n = refl
mixed false false false false false false false n = refl

any-four : (a b c d : ℕ) (l : List ℕ)
    → any_of (one_of a b c d) l ≡ any_of (eqb a) l || (any_of (eqb b) l || (any_of (eqb c) l || any_of (eqb d) l))
unfolding any_of
any-four a b c d [] = refl
any-four a b c d (x ∷ l) =
    rw (any-four a b c d l)
    (mixed (eqb a x) (eqb b x) (eqb c x) (eqb d x) (any_of (eqb a) l) (any_of (eqb b) l) (any_of (eqb c) l) (any_of (eqb d) l))

-- four rows at once: the pairs among them, each of them with what follows, and then what follows
rows : (p q r s t u k l m n z : Bool)
    → (p || (q || (r || k))) || ((s || (t || l)) || ((u || m) || (n || z)))
    ≡ ((p || (q || (r || false))) || ((s || (t || false)) || ((u || false) || (false || false)))) || ((k || (l || (m || n))) || z)
rows true q r s t u k l m n z = refl
rows false true r s t u k l m n z = refl
rows false false true s t u k l m n z = refl
rows false false false true t u true l m n z = refl
rows false false false false true u true l m n z = refl
rows false false false false false true true l m n z = refl
rows false false false false false false true l m n z = refl
rows false false false true t u false l m n z = refl
rows false false false false true u false l m n z = refl
rows false false false false false true false true m n z = refl
rows false false false false false false false true m n z = refl
rows false false false false false true false false m n z = refl
rows false false false false false false false false true n z = refl
rows false false false false false false false false false true z = refl
rows false false false false false false false false false false z = refl

four-rows : (a b c d : ℕ) (l : List ℕ)
    → two_same (a ∷ b ∷ c ∷ d ∷ l) ≡ two_same (a ∷ b ∷ c ∷ d ∷ []) || (any_of (one_of a b c d) l || two_same l)
unfolding two_same any_of
four-rows a b c d l =
    rw (any-four a b c d l)
    (rows (eqb a b) (eqb a c) (eqb a d) (eqb b c) (eqb b d) (eqb c d) (any_of (eqb a) l) (any_of (eqb b) l) (any_of (eqb c) l) (any_of (eqb d) l) (two_same l))

module _ (a b c d : ℕ) (l : List ℕ) where
  pub four-found : two_same (a ∷ b ∷ c ∷ d ∷ []) || any_of (one_of a b c d) l ≡ true → two_same (a ∷ b ∷ c ∷ d ∷ l) ≡ true
  four-found t = four-rows a b c d l ∙ or-join (two_same (a ∷ b ∷ c ∷ d ∷ [])) (any_of (one_of a b c d) l) (two_same l) ∙ rw t

  pub four-more : two_same (a ∷ b ∷ c ∷ d ∷ []) || any_of (one_of a b c d) l ≡ false → two_same (a ∷ b ∷ c ∷ d ∷ l) ≡ two_same l
  four-more t = four-rows a b c d l ∙ or-join (two_same (a ∷ b ∷ c ∷ d ∷ [])) (any_of (one_of a b c d) l) (two_same l) ∙ rw t

-- the numbers of the held, one more at a time
pub numbered-none : Numbered [] []
numbered-none = record { are = refl; narrow = tt }

pub numbered_more : (hs : List Held) (l : List ℕ) (i x : ℕ) → i < length hs → i < length l → Numbered (take i hs) (take i l)
    → Coded (get_or hs i nobody).activation x → Numbered (take (i + 1) hs) (take (i + 1) (set l i x))
numbered_more hs l i x h k s c =
    record {
      are =
          rw (add-one, take-suc-set l i x k, take-suc hs i nobody h, map-append code_held (take i hs) (get_or hs i nobody ∷ []), s.are, c.is);
      narrow =
          rw (add-one, take-suc hs i nobody h)
          (all_append (λ x. Narrow x.activation) (take i hs) (get_or hs i nobody ∷ []) s.narrow (c.narrow, tt));
    }

-- two numbers are equal exactly where two of the held are alike
any-alike : (h : Held) → Narrow h.activation → (hs : List Held) → All (λ x. Narrow x.activation) hs
    → any_of (eqb (code_held h)) (map code_held hs) ≡ is_held h.activation hs
unfolding any_of
any-alike h n [] a = refl
any-alike h n (x ∷ hs) a = rw (code_alike h.activation x.activation n a.0, any-alike h n hs a.1)

pub two-alike-same : (hs : List Held) → All (λ h. Narrow h.activation) hs → two_same (map code_held hs) ≡ two_alike hs
unfolding two_same two_alike
two-alike-same [] a = refl
two-alike-same (h ∷ hs) a = rw (any-alike h a.0 hs a.1, two-alike-same hs a.1)
