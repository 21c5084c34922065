-- The held sections of a table as it was left are a sound table.
--   same_parts       sections that share key, version and last number
--   sections-sound   so are they
use mathlib.Core.Path.{◌≡◌, refl, sym, subst, ◌∙◌}
use mathlib.Core.Bool.{Bool, true}
use mathlib.Core.List.Memᴰ
use mathlib.Core.List.{List, [], ◌∷◌, ◌++◌, append-nil, Memᴰ}
use Prim.Native.Nat.{ℕ, zero, suc, ◌+◌, ◌<◌, ◌≤◌}
use native.Mathlib.Omega.{arith}
use lib.Dec.{eqb}
use lib.ListN.{length}
use borrow.Author.Tests.{eq-eqb, eqb-true}
use Rattle.std.specs.Prelude.{Ok}
use Rattle.base.proofs.Cases.{by, and_left, and_right}
use Rattle.section.specs.Section.{read_of, header_of}
use Rattle.section.specs.declared.Header.{Header}
use Rattle.berth.specs.Berth.{sections}
use Rattle.key.specs.declared.Key.{Key}
use Rattle.key.specs.Key.{same_key}
use Rattle.key.proofs.Keys.{same_key_lem, one-said, is_one_lem}
use Rattle.shelf.specs.Record.{key_of}
use Rattle.file.specs.Layout.{most_counted, chosen, same_table, Rising, SoundTable}
use Rattle.file_round.specs.Round.{IsSection}
use Rattle.file_round.proofs.Picked.{picked-length, picked-in}

-- key, version and last number
pub record Same (a b : Header) : Type 0 where
  pub key : key_of a ≡ key_of b
  pub version : a.version ≡ b.version
  pub last : a.last ≡ b.last

pub same-table : (a b : Header) → Same a b → same_table a b ≡ true
unfolding same_table
same-table a b s =
    rw (
      one-said a.key b.key (is_one_lem a.key b.key s.key),
      eq-eqb a.version b.version s.version,
      eq-eqb a.last b.last s.last,
    )

pub same_parts : (a b : Header) → same_table a b ≡ true → Same a b
unfolding same_table
same_parts a b e =
    let one = same_key a.key b.key in
    let two = eqb a.version b.version in
    let late = and_right one _ e in
    record {
      key = same_key_lem a.key b.key (and_left one _ e);
      version = eqb-true _ _ (and_left two _ late);
      last = eqb-true _ _ (and_right two _ late);
    }

-- numbers below n
abbrev Below : ℕ → List (List ℕ) → Type 0
Below n [] = Unit {0}
Below n (s ∷ ss) = ((header_of s).number < n) × Below n ss

below_more : (n : ℕ) (ss : List (List ℕ)) → Below n ss → Below (suc n) ss
below_more n [] b = tt
below_more n (s ∷ ss) b = (let l = b.0 in omega arith, below_more n ss b.1)

below_last : (n : ℕ) (s : List ℕ) (ss : List (List ℕ)) → (header_of s).number ≡ n → Below n ss → Below (suc n) (ss ++ (s ∷ []))
below_last n s [] e b = (omega arith, tt)
below_last n s (x ∷ ss) e b = (let l = b.0 in omega arith, below_last n s ss e b.1)

-- one section more, above all others
rising-last : (first : Header) (n lowest : ℕ) (s : List ℕ) (ss : List (List ℕ)) → read_of s ≡ Ok (header_of s) → same_table first (header_of s) ≡ true
    → (header_of s).number ≡ n → lowest ≤ n → Below n ss → Rising first lowest ss → Rising first lowest (ss ++ (s ∷ []))
rising-last first n lowest s [] r t e l b i = (r, t, omega arith, tt)
rising-last first n lowest s (x ∷ ss) r t e l b i =
    (i.0, i.1, i.2, rising-last first n ((header_of x).number + 1) s ss r t e (let k = b.0 in omega arith) b.1 i.3)

-- the first of sections that share the table may stand for another that does
rising-first : (a b : Header) → Same a b → (lowest : ℕ) (ss : List (List ℕ)) → Rising a lowest ss → Rising b lowest ss
rising-first a b s lowest [] i = tt
rising-first a b s lowest (x ∷ ss) i =
    let t = same_parts a (header_of x) i.1 in (
      i.0,
      same-table b (header_of x)
          (record { key = sym s.key ∙ t.key; version = sym s.version ∙ t.version; last = sym s.last ∙ t.last }),
      i.2,
      rising-first a b s ((header_of x).number + 1) ss i.3,
    )

sound-from : (first : Header) (ss : List (List ℕ)) → length ss ≤ most_counted → Rising first 0 ss → (ss ≡ [] → ⊥) → SoundTable ss
sound-from first [] few i some = absurd (some refl)
sound-from first (s ∷ ss) few i some =
    (few, rising-first first (header_of s) (same_parts first (header_of s) i.1) 0 (s ∷ ss) i)

module _ (key : Key) (version last : ℕ) (has : ℕ → Bool) (bytes : ℕ → List ℕ)
    (each : (n : ℕ) → n < sections → has n ≡ true → IsSection key version last n (bytes n)) where
  -- a header of that table
  abbrev its : Header
  its = record { key = key; version = version; number = 0; last = last; start = 0; length = 0 }

  rises : (n : ℕ) → n ≤ sections → Below n (chosen n has bytes) × Rising its 0 (chosen n has bytes)
  unfolding chosen
  rises zero l = (tt, tt)
  rises (suc n) l =
      let before = rises n (omega arith) in
      by (has n)
      (λ t.
      let s = each n (omega arith) t in
      let shares : Same its (header_of (bytes n)) = record { key = sym s.key; version = sym s.version; last = sym s.last } in
      rw t (
        below_last n (bytes n) (chosen n has bytes) s.number before.0,
        rising-last its n 0 (bytes n) (chosen n has bytes) s.sound (same-table its (header_of (bytes n)) shares) s.number (omega arith) before.0 before.1,
      ))
      (λ t. rw (t, append-nil) (below_more n (chosen n has bytes) before.0, before.1))

  pub sections-sound : (n : ℕ) → n < sections → has n ≡ true → SoundTable (chosen sections has bytes)
  sections-sound n l t =
      sound-from its (chosen sections has bytes) (picked-length has bytes sections) (rises sections (omega arith)).1
      (λ e. Memᴰ.not-nil (subst (Memᴰ (bytes n)) e (picked-in has bytes sections n l t)))
