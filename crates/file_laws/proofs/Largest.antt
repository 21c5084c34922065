-- The largest file.
--   largest-file      the file of a sound table has at most 16,418 bytes
--   full-file         and there is one of that length: sixteen sections of 1,024 bytes
use mathlib.Core.Path.{◌≡◌, refl}
use mathlib.Core.List.{List, [], ◌∷◌}
use Prim.Native.Nat.{ℕ, zero, suc, ◌+◌, ◌*◌, ◌≤◌}
use native.Mathlib.Omega.{arith}
use lib.ListN.{length, replicate, length-append}
use borrow.Author.Tests.{le-ltb}
use Rattle.std.specs.Prelude.{Ok}
use Rattle.key.specs.Key.{key_from}
use Rattle.section.specs.Section.{read_of, header_of}
use Rattle.section.specs.declared.Header.{Header}
use Rattle.file_number.specs.Number.{spelling, spelt}
use Rattle.file_number.proofs.Bounds.{spelt-1-long, spelt-2-long}
use Rattle.file.specs.Layout.{form, most_counted, shortest, longest, largest_file, listed, file_of, same_table, Rising, SoundTable}
use Rattle.file.proofs.Found.{sound-size}

listed-short : (first : Header) (lowest : ℕ) (ss : List (List ℕ)) → Rising first lowest ss → length (listed ss) ≤ 1026 * length ss
unfolding listed
listed-short first lowest [] r = omega arith
listed-short first lowest (s ∷ ss) r =
    let w : (shortest ≤ length s) × (length s ≤ longest) = sound-size s (header_of s) r.0 in
    let l : length (spelt (length s)) ≤ 2 = spelt-2-long (length s) (omega arith) in
    let ih : length (listed ss) ≤ 1026 * length ss = listed-short first ((header_of s).number + 1) ss r.3 in
    simp length-append (omega arith)

pub largest-file : (ss : List (List ℕ)) → SoundTable ss → length (file_of ss) ≤ largest_file
unfolding file_of
largest-file [] t = absurd t
largest-file (s ∷ ss) t =
    let f : length (spelt form) ≡ 1 = spelt-1-long form (omega arith) in
    let n : length (s ∷ ss) ≤ most_counted = t.0 in
    let c : length (spelt (length (s ∷ ss))) ≡ 1 = spelt-1-long (length (s ∷ ss)) (omega arith) in
    let l : length (listed (s ∷ ss)) ≤ 1026 * length (s ∷ ss) = listed-short (header_of s) 0 (s ∷ ss) t.1 in
    simp length-append (omega arith)

-- section n of a table of sixteen, with 1,024 bytes
abbrev full : ℕ → List ℕ
full n = 0xC9 ∷ 0x73 ∷ 0xFD ∷ 0x12 ∷ 0x34 ∷ 0xC7 ∷ n ∷ 15 ∷ replicate 1016 0

-- k of them, from number n on
abbrev fulls : ℕ → ℕ → List (List ℕ)
fulls zero n = []
fulls (suc k) n = full n ∷ fulls k (n + 1)

full-sound : (n : ℕ) → n ≤ 15 → read_of (full n) ≡ Ok (header_of (full n))
unfolding read_of
full-sound n l = rw (le-ltb 15 n l)

fulls-rise : (k n : ℕ) → n + k ≤ 16 → Rising (header_of (full 0)) n (fulls k n)
unfolding same_table key_from
fulls-rise zero n l = tt
fulls-rise (suc k) n l = (full-sound n (omega arith), refl, omega arith, fulls-rise k (n + 1) (omega arith))

pub full-file : (ss : List (List ℕ)) × SoundTable ss × (length (file_of ss) ≡ largest_file)
unfolding file_of listed spelling
full-file = (fulls 16 0, (omega arith, fulls-rise 16 0 (omega arith)), refl)
