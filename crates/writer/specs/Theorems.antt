-- What is proved of the writer, in words: each is a theorem of `proofs/` by the same name in small letters.
use Rattle.std.specs.Prelude.{ℕ, zero, suc, ◌+◌, ◌/◌, ◌%◌, ◌^◌, ◌<◌, ◌≤◌, ◌≡◌, List, [], ◌∷◌, ◌++◌, ◌↔◌, length, drop, Result, Ok}
use Rattle.base.specs.Bytes.{byte}
use Rattle.base.specs.Octets.{Octets}
use Rattle.base.specs.Tables.{Rule, ◌says◌, None, above, said}
use Rattle.answers.specs.Answers.{refusal_in, sized}
use Rattle.key.specs.Key.{nrt_it}
use Rattle.key.specs.declared.Key.{Key}
use Rattle.section.specs.Section.{read_of}
use Rattle.section.specs.declared.Header.{Header}
use Rattle.refusal.specs.declared.Refusal.{Refusal}
use Rattle.writer.specs.Writer.{full, longest_body, last_of, body_at, section_of, written, count_of, write, placed, write_of}
use Rattle.writer.specs.Answer.{counted_code}
use Rattle.writer.specs.declared.Label.{Label}

-- asked for the NRT-IT's table id
abbrev pub AskedForNrtIt : ℕ → Type 0
AskedForNrtIt table = table ≡ nrt_it

-- body too long
abbrev pub TooLong : ℕ → Type 0
TooLong n = longest_body < n

module _ (table size : ℕ) where
  -- 59 and 40, in their order
  abbrev pub count_table : List Rule
  count_table = 59 says AskedForNrtIt table ∷ 40 says TooLong size ∷ []

  -- a refusal is given exactly when its words are so and those of none before it
  abbrev pub CountExactly : Type 0
  CountExactly =
      (n : ℕ) → 0 < n → n < 2 ^ 8
      → (counted_code (count_of table size) ≡ n) ↔ (None (above n count_table) × said n count_table)

  -- and where none is so the sections are counted
  abbrev pub CountAnswered : Type 0
  CountAnswered = None count_table → count_of table size ≡ Ok (last_of size + 1)

  abbrev pub CountUnique : Type 0
  CountUnique = (x y : Result ℕ Refusal) → x ≡ count_of table size → y ≡ count_of table size → x ≡ y

module _ (label : Label) (body : List ℕ) (k : ℕ) (out : List ℕ) where
  -- version above 31
  abbrev pub VersionAbove31 : Type 0
  VersionAbove31 = 31 < label.version

  -- k above the last
  abbrev pub AboveLast : Type 0
  AboveLast = last_of (length body) < k

  -- output too small
  abbrev pub TooSmall : Type 0
  TooSmall = length out < length (written label body k)

  -- 59, 40, 41, 42 and 15, in their order
  abbrev pub write_table : List Rule
  write_table =
      59 says AskedForNrtIt label.table
      ∷ 40 says TooLong (length body)
      ∷ 41 says VersionAbove31
      ∷ 42 says AboveLast
      ∷ 15 says TooSmall
      ∷ []

  abbrev pub WriteExactly : Type 0
  WriteExactly =
      (n : ℕ) → 0 < n → n < 2 ^ 8
      → (sized (write_of label body k out).said ≡ n) ↔ (None (above n write_table) × Rattle.base.specs.Tables.said n write_table)

  -- none is given exactly when none is so
  abbrev pub WriteNone : Type 0
  WriteNone = (refusal_in (sized (write_of label body k out).said) ≡ 0) ↔ None write_table

  -- and then the section stands at the front of the output, and what lies past it is as it was
  abbrev pub WriteAnswered : Type 0
  WriteAnswered = None write_table → write_of label body k out ≡ placed (written label body k) out

  -- two answers, with the outputs that they leave, are equal
  abbrev pub WriteUnique : Type 0
  WriteUnique =
      (x y : Result ℕ Refusal) (out' out'' : List ℕ)
      → write x out' ≡ write_of label body k out → write y out'' ≡ write_of label body k out → write x out' ≡ write y out''

-- the key of a table with that label, of an id other than the NRT-IT's
abbrev pub label_key : Label → Key
label_key label = record { table = label.table; extension = label.extension; service = 0; start = 0 }

-- what a reader finds in a section that carries these bytes
abbrev pub found : Label → ℕ → ℕ → List ℕ → Header
found label k last bytes =
    record {
      key = label_key label;
      version = label.version;
      number = k;
      last = last;
      start = 8;
      length = length bytes;
    }

-- a written section is read as its label, its number, the last number and its part of the body
abbrev pub ReadsBack : Label → List ℕ → ℕ → Type 0
ReadsBack label body k =
    ¬ AskedForNrtIt label.table → length body ≤ longest_body → label.version ≤ 31 → k ≤ last_of (length body)
    → read_of (written label body k) ≡ Ok (found label k (last_of (length body)) (body_at body k))

-- the reserved bits of a section are 1
abbrev pub ReservedOnes : List ℕ → Type 0
ReservedOnes s = (byte s 1 / 16 % 4 ≡ 3) × (byte s 5 / 64 ≡ 3)

-- the label that a section has
abbrev pub label_in : Header → Label
label_in h = record { table = h.key.table; extension = h.key.extension; version = h.version }

-- a sound section whose reserved bits are 1 is laid out as its own fields are, also that of an NRT-IT
abbrev pub WritesBack : List ℕ → Type 0
WritesBack s =
    (h : Header) → Octets s → read_of s ≡ Ok h → ReservedOnes s → s ≡ section_of (label_in h) h.number h.last (drop 8 s)

-- lists one after the other
abbrev pub joined : List (List ℕ) → List ℕ
joined [] = []
joined (b ∷ bs) = b ++ joined bs

-- the bodies of sections 0 to n - 1, joined
abbrev pub first_bodies : List ℕ → ℕ → List ℕ
first_bodies body zero = []
first_bodies body (suc n) = first_bodies body n ++ body_at body n

abbrev pub EachAtMost : ℕ → List (List ℕ) → Type 0
EachAtMost n [] = Unit {0}
EachAtMost n (b ∷ bs) = (length b ≤ n) × EachAtMost n bs

module _ (body : List ℕ) where
  -- every body but the last is full
  abbrev pub AllFull : Type 0
  AllFull = (k : ℕ) → k < last_of (length body) → length (body_at body k) ≡ full

  -- the bodies of all the sections, joined, are the given body
  abbrev pub BodiesJoin : Type 0
  BodiesJoin = first_bodies body (last_of (length body) + 1) ≡ body

  -- no list of bodies of at most 1,016 bytes that joins to the given body has fewer members. It has one at least, since a table
  -- without sections is no table
  abbrev pub Fewest : Type 0
  Fewest =
      (b : List ℕ) (bs : List (List ℕ)) → EachAtMost full (b ∷ bs) → joined (b ∷ bs) ≡ body
      → last_of (length body) + 1 ≤ length (b ∷ bs)
