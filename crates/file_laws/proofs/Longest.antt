-- The longest listing is as long as is said of it.
--   longest_list   the file of sixteen full sections of an NRT-IT has a list of 421 bytes
use mathlib.Core.Path.{◌≡◌, refl, ap, ◌∙◌}
use mathlib.Core.List.{List, ◌∷◌, ◌++◌}
use Prim.Native.Nat.{ℕ, ◌≤◌}
use native.Mathlib.Omega.{arith}
use lib.ListN.{length, replicate}
use borrow.Author.Tests.{le-ltb}
use Rattle.std.specs.Prelude.{Ok}
use Rattle.key.specs.Key.{key_from}
use Rattle.section.specs.Section.{read_of, header_of}
use Rattle.file.specs.Layout.{same_table}
use Rattle.file_listing.specs.Words.{place, places, decimal, long_decimal, lines}
use Rattle.file_listing.specs.Listing.{added_words, head_line, section_line, complete_line}
use Rattle.file_listing.specs.Answer.{largest_list, LongestList}
use Rattle.file_laws.proofs.Whole.{Numbered, file_of_all, lists-all}

-- section n of sixteen, with 1,024 bytes: every number of its table has all its digits, and the last four bytes of its key say 4,000,000,000
abbrev full : ℕ → List ℕ
full n =
    0xDF ∷ 0x73 ∷ 0xFD ∷ 0xC3 ∷ 0x50 ∷ 0xFF ∷ n ∷ 15 ∷ 0xC3 ∷ 0x50 ∷ 0xEE ∷ 0x6B ∷ 0x28 ∷ 0x00 ∷ replicate 1010 0

full-sound : (n : ℕ) → n ≤ 15 → read_of (full n) ≡ Ok (header_of (full n))
unfolding read_of
full-sound n l = rw (le-ltb 15 n l)

sixteen : Numbered full 15
unfolding same_table key_from
sixteen = record { few = omega arith; sound = full-sound; shares = λ k l. refl; number = λ k l. refl; ends = refl }

its-length : length (head_line (header_of (full 0)) ++ (lines 16 (λ k. section_line k (length (full k))) ++ complete_line)) ≡ largest_list
unfolding head_line added_words section_line lines decimal long_decimal places place key_from
its-length = refl

pub longest_list : LongestList
longest_list = (file_of_all full 15 sixteen, ap length (lists-all full 15 sixteen) ∙ its-length)
