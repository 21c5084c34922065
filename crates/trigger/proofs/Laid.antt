-- Laws on the layout: where its fields stand, and what is read there.
--   byte-after, word_after, part-after      what stands behind a front part
--   name-length .. whole_length             of each field of `laid name type target user`
use mathlib.Core.Path.{◌≡◌, ◌∙◌}
use mathlib.Core.List.{List, ◌∷◌, ◌++◌}
use Prim.Native.Nat.{ℕ, ◌+◌}
use native.Mathlib.Nat.{add_assoc}
use native.Mathlib.Omega.{arith}
use lib.ListN.{length, length-append}
use lib.Seq.{get_or-append-add, drop-append-add, take-append_seam, take-length}
use Rattle.base.specs.Bytes.{byte, word, part}
use Rattle.trigger_faults.specs.Fields.{id_length}
use Rattle.trigger.specs.Layout.{counted, laid}

module _ (p q : List ℕ) (k n : ℕ) (e : n ≡ length p + k) where
  pub byte-after : byte (p ++ q) n ≡ byte q k
  byte-after = rw (e, get_or-append-add)

  pub word_after : word (p ++ q) n ≡ word q k
  word_after = rw (e, add_assoc, get_or-append-add p q k 0, get_or-append-add p q (k + 1) 0)

  pub part-after : (m : ℕ) → part (p ++ q) n m ≡ part q k m
  part-after m = rw (e, drop-append-add)

pub counts : (b r : List ℕ) → word (counted b ++ r) 0 ≡ length b
counts b r = omega arith

module _ (name : List ℕ) (type : ℕ) (target user : List ℕ) where
  abbrev s : List ℕ
  s = laid name type target user

  pub name-length : id_length s ≡ length name
  name-length = omega arith

  pub name-part : part s 3 (length name) ≡ name
  name-part = take-append_seam name (type ∷ (counted target ++ counted user))

  pub type-byte : byte s (3 + length name) ≡ type
  type-byte = byte-after (0 ∷ counted name) (type ∷ (counted target ++ counted user)) 0 (3 + length name) (omega arith)

  pub target-length : word s (3 + length name + 1) ≡ length target
  target-length =
      word_after (0 ∷ counted name) (type ∷ (counted target ++ counted user)) 1 (3 + length name + 1) (omega arith)
      ∙ counts target (counted user)

  pub target-part : part s (3 + length name + 3) (length target) ≡ target
  target-part =
      part-after (0 ∷ counted name) (type ∷ (counted target ++ counted user)) 3 (3 + length name + 3) (omega arith) (length target)
      ∙ take-append_seam target (counted user)

  pub user-length : word s (3 + length name + 3 + length target) ≡ length user
  user-length =
      word_after (0 ∷ counted name) (type ∷ (counted target ++ counted user)) (3 + length target) (3 + length name + 3 + length target) (omega arith)
      ∙ word_after (type ∷ counted target) (counted user) 0 (3 + length target) (omega arith)
      ∙ omega arith

  pub user-part : part s (3 + length name + 3 + length target + 2) (length user) ≡ user
  user-part =
      part-after (0 ∷ counted name) (type ∷ (counted target ++ counted user)) (5 + length target) (3 + length name + 3 + length target + 2) (omega arith) (length user)
      ∙ part-after (type ∷ counted target) (counted user) 2 (5 + length target) (omega arith) (length user)
      ∙ take-length user

  pub whole_length : length s ≡ 3 + length name + 3 + length target + 2 + length user
  whole_length = simp length-append (omega arith)
