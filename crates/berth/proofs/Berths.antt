-- Laws of the berths, for who would hold them against document 01, "The shelf".
-- Over any size of a berth:
--   berths-apart                     two berths do not meet
--   sized-length, sized-here, sized-elsewhere, sized-outside             after all of a berth was written
-- Of the store:
--   store-is-berths                  its size
--   standing-length, standing-first  how many bytes stand in a berth, and the first of them
--   put-length, put-berth, put-here, put_rest, put-elsewhere, put-outside     after a section is stored
--   wiped-length, wiped-here, wiped-elsewhere, wiped-outside                  after a berth is zeroed
--   where-length, where-picked, where-spared, where-outside, where-same       after those berths that a test picks are zeroed
-- `Elsewhere p n q m`: berth m of place q is another than berth n of place p. `Outside size p n at`: the byte at a place is none of that
-- berth's. `Spared picks k p q m`: berth m of place q is none of those that are picked among the first k of place p.
use Rattle.std.specs.Prelude.{if◌then◌else◌}
use mathlib.Core.Path.{◌≡◌, refl, sym, ap, subst, ◌∙◌}
use mathlib.Core.Bool.{Bool, true}
use mathlib.Core.List.{List}
use mathlib.Core.Logic.{◌⊎◌, ⊎_elim, inl, inr}
use Prim.Native.Nat.{ℕ, zero, suc, ◌+◌, ◌-◌, ◌*◌, ◌≤◌, ◌<◌}
use native.Mathlib.Nat.{mul-le-mul_left, mul-suc, add-zero, eq-or-lt_of_le, le_of_suc-le-suc, not-suc-le-zero}
use native.Mathlib.Omega.{arith}
use lib.ListN.{length, take, drop, length-drop}
use lib.Dec.{ltb}
use lib.Seq.{length-take-le, take-take, take_all, take_at, drop_at, get_or-take, get_or-drop}
use borrow.Author.Tests.{ltb-true, ltb-false}
use Rattle.base.specs.Bytes.{byte, part, zeros}
use Rattle.base.proofs.Cases.{by, unlike}
use Rattle.berth.specs.Berth.{berth_size, sections, places, store_size, begins_at, laid, padded, put, wiped, wiped_where, standing}
use Rattle.berth.proofs.Laid.{zeros-length, padded-length, laid-length, laid-here, laid-before, laid-after}

abbrev pub Elsewhere : ℕ → ℕ → ℕ → ℕ → Type 0
Elsewhere p n q m = p ≡ q → n ≡ m → ⊥

-- a byte that is not in berth n of place p
abbrev pub Outside : ℕ → ℕ → ℕ → ℕ → Type 0
Outside size p n at = (at < begins_at size p n) ⊎ (begins_at size p n + size ≤ at)

-- the store is its berths, place by place
pub store-is-berths : store_size ≡ berth_size * (sections * places)
store-is-berths = refl

next : (size a b : ℕ) → a < b → size * a + size ≤ size * b
next size a b h = rw mul-suc at (mul-le-mul_left size h)

-- one lies before the other, or the other before the one
pub berths-apart : (size p n q m : ℕ) → n < sections → m < sections → Elsewhere p n q m
    → (begins_at size p n + size ≤ begins_at size q m) ⊎ (begins_at size q m + size ≤ begins_at size p n)
berths-apart size p n q m hn hm other =
    by (ltb (16 * p + n) (16 * q + m))
    (λ t. inl (next size (16 * p + n) (16 * q + m) (ltb-true _ _ t)))
    (λ f.
    let l : 16 * q + m ≤ 16 * p + n = ltb-false _ _ f in
    ⊎_elim
    (λ e. let a : p ≡ q = omega arith in let b : n ≡ m = omega arith in absurd (other a b))
    (λ g. inr (next size (16 * q + m) (16 * p + n) g))
    (eq-or-lt_of_le l))

byte-first : (s : List ℕ) (at : ℕ) → byte s at ≡ byte (part s at 1) 0
byte-first s at = rw (get_or-take 1 (drop at s) 0 0 (omega arith), get_or-drop, add-zero)

module _ (size : ℕ) (store : List ℕ) (p n : ℕ) (new : List ℕ) (full : length new ≡ size) (h : begins_at size p n + size ≤ length store) where
  -- the store with all of berth n of place p anew
  abbrev pub anew : List ℕ
  anew = laid store (begins_at size p n) new

  pub sized-length : length anew ≡ length store
  sized-length = laid-length store (begins_at size p n) new (omega arith)

  pub sized-here : (k : ℕ) → k ≤ size → part anew (begins_at size p n) k ≡ take k new
  sized-here k l = laid-here store (begins_at size p n) new (omega arith) k (omega arith)

  sized-apart : (from k : ℕ) → (from + k ≤ begins_at size p n) ⊎ (begins_at size p n + size ≤ from) → part anew from k ≡ part store from k
  sized-apart from k =
      ⊎_elim
      (λ b. laid-before store (begins_at size p n) new (omega arith) from k b)
      (λ a. ap (take k) (laid-after store (begins_at size p n) new (omega arith) from (omega arith)))

  pub sized-elsewhere : (q m k : ℕ) → n < sections → m < sections → Elsewhere p n q m → k ≤ size
      → part anew (begins_at size q m) k ≡ part store (begins_at size q m) k
  sized-elsewhere q m k hn hm other l =
      sized-apart (begins_at size q m) k
      (⊎_elim (λ a. inr a) (λ b. inl (omega arith)) (berths-apart size p n q m hn hm other))

  pub sized-outside : (at : ℕ) → Outside size p n at → byte anew at ≡ byte store at
  sized-outside at out =
      byte-first anew at
      ∙ ap (λ s. byte s 0) (sized-apart at 1 (⊎_elim (λ b. inl (omega arith)) (λ a. inr a) out))
      ∙ sym (byte-first store at)

-- the first bytes of the first bytes
pub standing-first : (store : List ℕ) (p n k count : ℕ) → k ≤ count → standing store p n k ≡ take k (standing store p n count)
unfolding standing
standing-first store p n k count h = sym (take-take k count _ h)

module _ (store : List ℕ) (whole : length store ≡ store_size) (p n : ℕ) (hp : p < places) (hn : n < sections) where
  pub standing-length : (count : ℕ) → count ≤ berth_size → length (standing store p n count) ≡ count
  unfolding standing
  standing-length count h = length-take-le count _ (simp length-drop (omega arith))

  module _ (section : List ℕ) (h : length section ≤ berth_size) where
    pub put-length : length (put store p n section) ≡ length store
    unfolding put
    put-length = sized-length berth_size store p n (padded berth_size section) (padded-length berth_size section h) (omega arith)

    -- the whole berth
    pub put-berth : standing (put store p n section) p n berth_size ≡ padded berth_size section
    unfolding put standing
    put-berth =
        sized-here berth_size store p n (padded berth_size section) (padded-length berth_size section h) (omega arith) berth_size (omega arith)
        ∙ take_all berth_size (padded berth_size section) (omega (arith, padded-length berth_size section h))

    -- the section's bytes
    pub put-here : standing (put store p n section) p n (length section) ≡ section
    unfolding padded
    put-here =
        standing-first _ p n (length section) berth_size h ∙ ap (take (length section)) put-berth
        ∙ take_at section _ (length section) refl

    -- the rest of the berth is zeros
    pub put_rest : drop (length section) (standing (put store p n section) p n berth_size) ≡ zeros (berth_size - length section)
    unfolding padded
    put_rest = ap (drop (length section)) put-berth ∙ drop_at section _ (length section) refl

    pub put-elsewhere : (q m count : ℕ) → m < sections → Elsewhere p n q m → count ≤ berth_size
        → standing (put store p n section) q m count ≡ standing store q m count
    unfolding put standing
    put-elsewhere q m count hm other l =
        sized-elsewhere berth_size store p n (padded berth_size section) (padded-length berth_size section h) (omega arith) q m count hn hm other l

    pub put-outside : (at : ℕ) → Outside berth_size p n at → byte (put store p n section) at ≡ byte store at
    unfolding put
    put-outside = sized-outside berth_size store p n (padded berth_size section) (padded-length berth_size section h) (omega arith)

  pub wiped-length : length (wiped store p n) ≡ length store
  unfolding wiped
  wiped-length = sized-length berth_size store p n (zeros berth_size) (zeros-length berth_size) (omega arith)

  pub wiped-here : standing (wiped store p n) p n berth_size ≡ zeros berth_size
  unfolding wiped standing
  wiped-here =
      sized-here berth_size store p n (zeros berth_size) (zeros-length berth_size) (omega arith) berth_size (omega arith)
      ∙ take_all berth_size (zeros berth_size) (omega (arith, zeros-length berth_size))

  pub wiped-elsewhere : (q m count : ℕ) → m < sections → Elsewhere p n q m → count ≤ berth_size
      → standing (wiped store p n) q m count ≡ standing store q m count
  unfolding wiped standing
  wiped-elsewhere q m count hm other l =
      sized-elsewhere berth_size store p n (zeros berth_size) (zeros-length berth_size) (omega arith) q m count hn hm other l

  pub wiped-outside : (at : ℕ) → Outside berth_size p n at → byte (wiped store p n) at ≡ byte store at
  unfolding wiped
  wiped-outside = sized-outside berth_size store p n (zeros berth_size) (zeros-length berth_size) (omega arith)

-- berth m of place q is none of those that are picked among the first k of place p
abbrev pub Spared : (ℕ → Bool) → ℕ → ℕ → ℕ → ℕ → Type 0
Spared picks k p q m = p ≡ q → m < k → picks m ≡ true → ⊥

pub where-same : (f g : ℕ → Bool) (k : ℕ) (store : List ℕ) (p : ℕ) → ((m : ℕ) → m < k → f m ≡ g m) → wiped_where f k store p ≡ wiped_where g k store p
unfolding wiped_where
where-same f g zero store p h = refl
where-same f g (suc k) store p h =
    rw (h k (omega arith)) (ap (λ s. if g k then wiped s p k else s) (where-same f g k store p (λ m l. h m (omega arith))))

module _ (picks : ℕ → Bool) (store : List ℕ) (whole : length store ≡ store_size) (p : ℕ) (hp : p < places) where
  pub where-length : (k : ℕ) → k ≤ sections → length (wiped_where picks k store p) ≡ store_size
  unfolding wiped_where
  where-length zero h = whole
  where-length (suc k) h =
      let before = where-length k (omega arith) in
      by (picks k) (λ t. rw t (wiped-length (wiped_where picks k store p) before p k hp (omega arith) ∙ before)) (λ t. rw t before)

  pub where-spared : (k : ℕ) → k ≤ sections → (q m count : ℕ) → m < sections → Spared picks k p q m → count ≤ berth_size
      → standing (wiped_where picks k store p) q m count ≡ standing store q m count
  unfolding wiped_where
  where-spared zero h q m count hm spared l = refl
  where-spared (suc k) h q m count hm spared l =
      let before = where-spared k (omega arith) q m count hm (λ e i. spared e (omega arith)) l in
      by (picks k)
      (λ t. rw t
      (wiped-elsewhere (wiped_where picks k store p) (where-length k (omega arith)) p k hp (omega arith) q m count hm
      (λ e i. spared e (omega arith) (ap picks (sym i) ∙ t)) l
      ∙ before))
      (λ t. rw t before)

  pub where-picked : (k : ℕ) → k ≤ sections → (m : ℕ) → m < k → picks m ≡ true
      → standing (wiped_where picks k store p) p m berth_size ≡ zeros berth_size
  unfolding wiped_where
  where-picked zero h m l t = absurd (not-suc-le-zero l)
  where-picked (suc k) h m l t =
      let size = where-length k (omega arith) in
      by (picks k)
      (λ u. rw u
      (⊎_elim
      (λ e. subst (λ j. standing (wiped (wiped_where picks k store p) p k) p j berth_size ≡ zeros berth_size) (sym e)
      (wiped-here (wiped_where picks k store p) size p k hp (omega arith)))
      (λ i.
      wiped-elsewhere (wiped_where picks k store p) size p k hp (omega arith) p m berth_size (omega arith) (λ _ e. omega arith) (omega arith)
      ∙ where-picked k (omega arith) m i t)
      (eq-or-lt_of_le (le_of_suc-le-suc l))))
      (λ u. rw u
      (⊎_elim
      (λ e. absurd (unlike (sym t ∙ ap picks e ∙ u)))
      (λ i. where-picked k (omega arith) m i t)
      (eq-or-lt_of_le (le_of_suc-le-suc l))))

  pub where-outside : (k : ℕ) → k ≤ sections → (at : ℕ) → ((m : ℕ) → m < k → picks m ≡ true → Outside berth_size p m at)
      → byte (wiped_where picks k store p) at ≡ byte store at
  unfolding wiped_where
  where-outside zero h at out = refl
  where-outside (suc k) h at out =
      let before = where-outside k (omega arith) at (λ m l. out m (omega arith)) in
      by (picks k)
      (λ t. rw t (wiped-outside (wiped_where picks k store p) (where-length k (omega arith)) p k hp (omega arith) at (out k (omega arith) t) ∙ before))
      (λ t. rw t before)
