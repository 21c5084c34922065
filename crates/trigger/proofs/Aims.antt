-- The target's bytes and what they say are one another's inverse.
--   aim-type, aim-back, aim-fro    from a type and bytes and back, from an aim and back
--   aim-size                       as many bytes
--   aim-fits                       bytes without a fault say what fits
--   aim-allowed, aim-ascii         what fits has no fault
--   aim-told                       the target is the one that the reader answers
use mathlib.Core.Path.{◌≡◌, refl, sym, ap, ◌∙◌}
use mathlib.Core.Bool.{Bool, true, false, ◌&&◌}
use mathlib.Core.List.{List, [], ◌∷◌, ◌++◌}
use Prim.Native.Nat.{ℕ, zero, suc, ◌+◌, ◌*◌, ◌/◌, ◌%◌, ◌<◌, ◌≤◌}
use native.Mathlib.Nat.{add-zero}
use native.Mathlib.Omega.{arith}
use lib.Dec.{eqb, ltb, leb}
use lib.ListN.{length, drop, get_or-eq_default}
use lib.Seq.{drop-length}
use borrow.Author.Tests.{eq-eqb, ne_eqb, eqb-true, eqb-false, ltb-true, ltb-false, le-ltb, lt-leb}
use Rattle.base.specs.Bytes.{byte, word, part}
use Rattle.base.specs.Below.{some}
use Rattle.base.specs.Octets.{Octets}
use Rattle.base.proofs.Below.{some-all, some-each}
use Rattle.base.proofs.Cases.{by, either}
use Rattle.base.proofs.Bytes.{word_fits, word-part, length_part, byte-part}
use Rattle.trigger_faults.specs.Fields.{wrong_length, is_uri, some_high}
use Rattle.trigger.specs.Trigger.{kind_of, module_of}
use Rattle.trigger.specs.Layout.{Aim, aim_type, aim_bytes, FitAim, FitUri, two_bytes, target_in}
use Rattle.trigger.specs.declared.Target.{Target}
use Rattle.trigger_faults.proofs.Truth.{and_none}
use Rattle.trigger.proofs.Lengths.{no_none, module-six, tap-two}
use Rattle.trigger.specs.Message.{aim_from}
use Rattle.trigger.proofs.Unrolled.{words}

-- none of the types 1 to 5
pub record Other (type : ℕ) : Type 0 where
  pub one : type ≡ 1 → ⊥
  pub two : type ≡ 2 → ⊥
  pub three : type ≡ 3 → ⊥
  pub four : type ≡ 4 → ⊥
  pub five : type ≡ 5 → ⊥

-- what holds of every aim that bytes under a type can say holds of the one that they say
module _ {κ} (type : ℕ) (b : List ℕ) (P : Aim → Type κ) where
  pub each : (length b ≡ 0 → P (Aim.nothing type))
      → ((length b ≡ 0 → ⊥) → type ≡ 1 → P (Aim.modular (word b 0) (word b 2) (word b 4)))
      → ((length b ≡ 0 → ⊥) → type ≡ 2 → P (Aim.tap (word b 0)))
      → ((length b ≡ 0 → ⊥) → type ≡ 3 → P (Aim.absolute b))
      → ((length b ≡ 0 → ⊥) → type ≡ 4 → P (Aim.lid b))
      → ((length b ≡ 0 → ⊥) → type ≡ 5 → P (Aim.http b))
      → ((length b ≡ 0 → ⊥) → Other type → P (Aim.reserved type b))
      → P (aim_from type b)
  unfolding aim_from
  each p0 p1 p2 p3 p4 p5 p6 =
      either P (eqb (length b) 0) (λ t. p0 (eqb-true _ _ t))
      (λ z.
      either P (eqb type 1) (λ t. p1 (eqb-false _ _ z) (eqb-true _ _ t))
      (λ n1.
      either P (eqb type 2) (λ t. p2 (eqb-false _ _ z) (eqb-true _ _ t))
      (λ n2.
      either P (eqb type 3) (λ t. p3 (eqb-false _ _ z) (eqb-true _ _ t))
      (λ n3.
      either P (eqb type 4) (λ t. p4 (eqb-false _ _ z) (eqb-true _ _ t))
      (λ n4.
      either P (eqb type 5) (λ t. p5 (eqb-false _ _ z) (eqb-true _ _ t))
      (λ n5.
      p6 (eqb-false _ _ z)
      record {
        one = eqb-false _ _ n1;
        two = eqb-false _ _ n2;
        three = eqb-false _ _ n3;
        four = eqb-false _ _ n4;
        five = eqb-false _ _ n5;
      }))))))

-- tests that are alike below n
some_alike : (n : ℕ) (f g : ℕ → Bool) → ((k : ℕ) → k < n → f k ≡ g k) → some n f ≡ some n g
unfolding some
some_alike zero f g h = refl
some_alike (suc n) f g h = rw (some_alike n f g (λ k l. h k (omega arith)), h n (omega arith))

empty : (b : List ℕ) → length b ≡ 0 → [] ≡ b
empty [] e = refl
empty (x ∷ b) e = absurd (omega arith)

module _ (type : ℕ) (b : List ℕ) where
  pub aim-type : aim_type (aim_from type b) ≡ type
  aim-type =
      each type b (λ a. aim_type a ≡ type) (λ _. refl) (λ _ e. sym e) (λ _ e. sym e) (λ _ e. sym e) (λ _ e. sym e) (λ _ e. sym e) (λ _ _. refl)

  module _ (allowed : wrong_length type (length b) ≡ false) where
    pub aim-size : length (aim_bytes (aim_from type b)) ≡ length b
    aim-size =
        each type b (λ a. length (aim_bytes a) ≡ length b)
        (λ e. sym e)
        (λ z e. sym (module-six type (length b) z allowed e))
        (λ z e. sym (tap-two type (length b) z allowed e))
        (λ _ _. refl) (λ _ _. refl) (λ _ _. refl) (λ _ _. refl)

    module _ (o : Octets b) where
      -- what is left behind the last place is nothing
      spent : (n : ℕ) → length b ≡ n → drop n b ≡ []
      spent n e = rw (← e) (drop-length b)

      pub aim-back : aim_bytes (aim_from type b) ≡ b
      aim-back =
          each type b (λ a. aim_bytes a ≡ b)
          (empty b)
          (λ z e.
          let six : length b ≡ 6 = module-six type (length b) z allowed e in
          sym
          (words b o 0 (omega arith)
          ∙ ap (λ l. two_bytes (word b 0) ++ l)
          (words b o 2 (omega arith)
          ∙ ap (λ l. two_bytes (word b 2) ++ l) (words b o 4 (omega arith) ∙ ap (λ l. two_bytes (word b 4) ++ l) (spent 6 six)))))
          (λ z e.
          let two : length b ≡ 2 = tap-two type (length b) z allowed e in
          sym (words b o 0 (omega arith) ∙ ap (λ l. two_bytes (word b 0) ++ l) (spent 2 two)))
          (λ _ _. refl) (λ _ _. refl) (λ _ _. refl) (λ _ _. refl)

-- a byte above 127 is among some bytes
abbrev pub high : List ℕ → Bool
high b = some (length b) (λ k. ltb 127 (byte b k))

pub high_part : (s : List ℕ) (at n : ℕ) → at + n ≤ length s → some_high s at n ≡ high (part s at n)
unfolding some_high
high_part s at n h =
    rw (length_part s at n h) (some_alike n (λ k. ltb 127 (byte s (at + k))) (λ k. ltb 127 (byte (part s at n) k)) (λ k l. rw (byte-part s at n k l)))

module _ (type : ℕ) (b : List ℕ) (ascii : is_uri type && high b ≡ false) where
  uri : is_uri type ≡ true → (length b ≡ 0 → ⊥) → FitUri b
  uri u z = (
    omega arith,
    λ k.
        by (ltb k (length b))
        (λ t.
        let low : byte b k ≤ 127 = ltb-false _ _ (some-each (λ k. ltb 127 (byte b k)) (length b) k (ltb-true _ _ t) (rw u at ascii)) in
        omega arith)
        (λ f. rw (get_or-eq_default b 0 (ltb-false k (length b) f)) (omega arith)),
  )

  pub aim-fits : wrong_length type (length b) ≡ false → Octets b → type < 256 → FitAim (aim_from type b)
  unfolding is_uri
  aim-fits allowed o small =
      each type b FitAim
      (λ _. small)
      (λ _ _. (word_fits b o 0, word_fits b o 2, word_fits b o 4))
      (λ _ _. word_fits b o 0)
      (λ z e. uri (rw e refl) z)
      (λ z e. uri (rw e refl) z)
      (λ z e. uri (rw e refl) z)
      (λ z e. let n : type ≡ 0 → ⊥ = no_none type (length b) z allowed in (omega arith, small, omega arith, o))

pub aim-fro : (a : Aim) → FitAim a → aim_from (aim_type a) (aim_bytes a) ≡ a
unfolding aim_from
aim-fro (Aim.nothing t) f = refl
aim-fro (Aim.modular d g n) f =
    let e : d / 256 * 256 + d % 256 ≡ d = omega arith in
    let h : g / 256 * 256 + g % 256 ≡ g = omega arith in
    let k : n / 256 * 256 + n % 256 ≡ n = omega arith in
    rw (e, h, k)
aim-fro (Aim.tap n) f = let e : n / 256 * 256 + n % 256 ≡ n = omega arith in rw e
aim-fro (Aim.absolute b) f = rw (ne_eqb (length b) 0 (λ e. omega arith))
aim-fro (Aim.lid b) f = rw (ne_eqb (length b) 0 (λ e. omega arith))
aim-fro (Aim.http b) f = rw (ne_eqb (length b) 0 (λ e. omega arith))
aim-fro (Aim.reserved t b) f =
    rw (
      ne_eqb (length b) 0 (λ e. omega arith),
      ne_eqb t 1 (λ e. omega arith),
      ne_eqb t 2 (λ e. omega arith),
      ne_eqb t 3 (λ e. omega arith),
      ne_eqb t 4 (λ e. omega arith),
      ne_eqb t 5 (λ e. omega arith),
    )

pub aim-allowed : (a : Aim) → FitAim a → wrong_length (aim_type a) (length (aim_bytes a)) ≡ false
unfolding wrong_length
aim-allowed (Aim.nothing t) f = simp and_none
aim-allowed (Aim.modular d g n) f = refl
aim-allowed (Aim.tap n) f = refl
aim-allowed (Aim.absolute b) f = refl
aim-allowed (Aim.lid b) f = refl
aim-allowed (Aim.http b) f = refl
aim-allowed (Aim.reserved t b) f = rw (ne_eqb t 0 (λ e. omega arith), ne_eqb t 1 (λ e. omega arith), ne_eqb t 2 (λ e. omega arith))

low : (b : List ℕ) → FitUri b → high b ≡ false
low b f = some-all (λ k. ltb 127 (byte b k)) (length b) (λ k _. le-ltb 127 (byte b k) (let h : byte b k < 128 = f.1 k in omega arith))

pub aim-ascii : (a : Aim) → FitAim a → is_uri (aim_type a) && high (aim_bytes a) ≡ false
unfolding is_uri some
aim-ascii (Aim.nothing t) f = and_none (leb 3 t && leb t 5)
aim-ascii (Aim.modular d g n) f = refl
aim-ascii (Aim.tap n) f = refl
aim-ascii (Aim.absolute b) f = low b f
aim-ascii (Aim.lid b) f = low b f
aim-ascii (Aim.http b) f = low b f
aim-ascii (Aim.reserved t b) f = rw (lt-leb t 5 (omega arith), and_none (leb 3 t))

module _ (s : List ℕ) (type place n : ℕ) (fits : place + n ≤ length s) where
  abbrev b : List ℕ
  b = part s place n

  long : length b ≡ n
  long = length_part s place n fits

  modules : n ≡ 6 → Target.Module (module_of s place) ≡ Target.Module (record { download = word b 0; group = word b 2; number = word b 4 })
  unfolding module_of
  modules e =
      rw (
        word-part s place n 0 (omega arith),
        word-part s place n 2 (omega arith),
        word-part s place n 4 (omega arith),
        add-zero,
      )

  pub aim-told : wrong_length type n ≡ false → kind_of s type place n ≡ target_in place (aim_from type (part s place n))
  aim-told allowed =
      each type b (λ a. kind_of s type place n ≡ target_in place a)
      (λ e. rw (eq-eqb n 0 (sym long ∙ e)))
      (λ z e. rw (has z, eq-eqb type 1 e) (modules (module-six type n (λ q. z (long ∙ q)) allowed e)))
      (λ z e.
      let two : n ≡ 2 = tap-two type n (λ q. z (long ∙ q)) allowed e in
      rw (has z, e, word-part s place n 0 (omega arith), add-zero))
      (λ z e. rw (has z, e, long))
      (λ z e. rw (has z, e, long))
      (λ z e. rw (has z, e, long))
      (λ z e.
      rw (
        has z,
        ne_eqb type 1 e.one,
        ne_eqb type 2 e.two,
        ne_eqb type 3 e.three,
        ne_eqb type 4 e.four,
        ne_eqb type 5 e.five,
        long,
      ))
    where
      has : (length b ≡ 0 → ⊥) → eqb n 0 ≡ false
      has z = ne_eqb n 0 (λ q. z (long ∙ q))
