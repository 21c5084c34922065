-- Document 02, request 1: the sections of a body, and the refusals 59, 40, 41, 42 and 15. 59 is request 4's: an NRT-IT is
-- not written, since a label does not say all of its key.
use Rattle.std.specs.Prelude.{ℕ, ◌+◌, ◌-◌, ◌*◌, ◌/◌, ◌%◌, List, [], ◌∷◌, ◌++◌, ltb, eqb, length, drop, if◌then◌else◌, Result, Ok, Err}
use Rattle.base.specs.Choice.{Row, ◌if◌, first}
use Rattle.base.specs.Bytes.{part}
use Rattle.key.specs.Key.{nrt_it}
use Rattle.section.specs.Section.{header_size, largest_section, most_sections}
use Rattle.refusal.specs.declared.Refusal.{Refusal}
use Rattle.refusal.specs.declared.Refusal.TheVariants.{AskedForNrtIt, WriterBodyTooLong, WriterVersionAbove31, WriterKAboveLast, OutputTooSmall}
use Rattle.writer.specs.declared.Label.{Label}

-- the bytes of a full body, 1,016
abbrev pub full : ℕ
full = largest_section - header_size

-- a body of up to 16,256 bytes: 16 bodies of 1,016
abbrev pub longest_body : ℕ
longest_body = most_sections * full

-- the last section number, with as few sections as will do: each body full but the last. An empty body gives one section,
-- since 0 - 1 is 0 here; that no fewer will do is a law (proofs/Fewest.antt)
unfoldable pub last_of : ℕ → ℕ
last_of n = (n - 1) / full

-- of n bytes, where the body of a section ends that starts at a place
abbrev pub end_of : ℕ → ℕ → ℕ
end_of n start = if ltb (n - start) full then n else start + full

-- the body of section k
unfoldable pub body_at : List ℕ → ℕ → List ℕ
body_at body k = part body (full * k) full

-- the header of a section with a body of n bytes: syntax indicator 0, private indicator 1, reserved bits 1, current/next 1
abbrev pub header_of : Label → ℕ → ℕ → ℕ → List ℕ
header_of label k last n =
    label.table
    ∷ (64 + 48 + (5 + n) / 256)
    ∷ ((5 + n) % 256)
    ∷ (label.extension / 256)
    ∷ (label.extension % 256)
    ∷ (192 + 2 * label.version + 1)
    ∷ k
    ∷ last
    ∷ []

-- a section that carries these bytes
unfoldable pub section_of : Label → ℕ → ℕ → List ℕ → List ℕ
section_of label k last bytes = header_of label k last (length bytes) ++ bytes

-- section k of the table that carries a body
unfoldable pub written : Label → List ℕ → ℕ → List ℕ
written label body k = section_of label k (last_of (length body)) (body_at body k)

-- order: 59 asked for the NRT-IT's table id, then 40 body too long
abbrev pub uncounted : ℕ → ℕ → List Row
uncounted table n = AskedForNrtIt if eqb table nrt_it ∷ WriterBodyTooLong if ltb longest_body n ∷ []

-- how many sections a body of n bytes makes in a table of that id: an answer of its own, so that a bench can loop
unfoldable pub count_of : ℕ → ℕ → Result ℕ Refusal
count_of table n = first Err (uncounted table n) (Ok (last_of n + 1))

-- what a call leaves: the answer and the output
pub record Write : Type 0 where
  pub said : Result ℕ Refusal
  pub out : List ℕ

abbrev pub write : Result ℕ Refusal → List ℕ → Write
write said out = record { said = said; out = out }

-- order: 59, 40, 41 version above 31, 42 k above the last, then 15
abbrev pub unwritten : Label → List ℕ → ℕ → List ℕ → List Row
unwritten label body k out =
    AskedForNrtIt if eqb label.table nrt_it
    ∷ WriterBodyTooLong if ltb longest_body (length body)
    ∷ WriterVersionAbove31 if ltb 31 label.version
    ∷ WriterKAboveLast if ltb (last_of (length body)) k
    ∷ OutputTooSmall if ltb (length out) (length (written label body k))
    ∷ []

-- a refused call leaves the output as it was
abbrev pub refuse : List ℕ → Refusal → Write
refuse out r = write (Err r) out

-- a section at the front of the output; bytes past it stay as they were
abbrev pub placed : List ℕ → List ℕ → Write
placed section out = write (Ok (length section)) (section ++ drop (length section) out)

unfoldable pub write_of : Label → List ℕ → ℕ → List ℕ → Write
write_of label body k out = first (refuse out) (unwritten label body k out) (placed (written label body k) out)
