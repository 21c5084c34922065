-- Document 02, request 1, of the functions that a host calls: "Offered to a fresh shelf in any order, the sections make a complete table
-- whose joined bodies are the given body." The theorems are in proofs/Bench.
use Rattle.std.specs.Prelude.{ℕ, zero, suc, ◌+◌, ◌<◌, ◌≤◌, ◌≡◌, List, [], ◌++◌, length, take, drop}
use Rattle.base.specs.Octets.{Octets}
use Rattle.answers.specs.Answers.{Out, size_in, filled}
use Rattle.key.specs.declared.Key.{Key}
use Rattle.key.specs.Key.{nrt_it}
use Rattle.writer.specs.Writer.{longest_body, last_of, written}
use Rattle.writer.specs.Answer.{section_lent}
use Rattle.writer.specs.declared.Label.{Label}
use Rattle.writer_laws.specs.Offers.{label_key, offers_of}
use Rattle.writer_laws.specs.Laws.{InAnyOrder}
use Rattle.shelf_histories.specs.History.{Loan, Sized, History, whole_after, copy_after}
use Rattle.demands.specs.Shelf.{complete}

-- section k of a body and a label that the writer takes, as `khumsafil_raw_writer_section` leaves it at the front of an output with room for it; its
-- refusals are told in writer, specs/Theorems
abbrev pub SectionWritten : Type 0
SectionWritten =
    (label : Label) (body : List ℕ)
    → ¬ (label.table ≡ nrt_it)
    → label.version ≤ 31
    → length body ≤ longest_body
    → (k : ℕ)
    → k ≤ last_of (length body)
    → (output : List ℕ)
    → length (written label body k) ≤ length output
    → section_lent label body k output ≡ filled (written label body k) output

-- the histories in which the sections with these numbers are offered, one after the other
abbrev pub Offering : Label → List ℕ → List ℕ → History → Type 0
Offering label body ks h = h.calls ≡ offers_of label body ks

-- a label and a body of bytes, as all are that a host can hand over
pub record InBytes (label : Label) (body : List ℕ) : Type 0 where
  pub table : label.table < 256
  pub extension : label.extension < 65536
  pub octets : Octets body

-- for these there is such a history, on whatever is lent
abbrev pub CanBeOffered : Type 0
CanBeOffered =
    InAnyOrder (λ label body ks.
    InBytes label body → (l : Loan) → Sized l → (h : History) × (h.lent ≡ l) × Offering label body ks h)

-- the table is called complete
abbrev pub CompleteTable : Type 0
CompleteTable = InAnyOrder (λ label body ks. (h : History) → Offering label body ks h → whole_after h (label_key label) ≡ complete)

-- each section is handed out as it was written
abbrev pub HandsOut : Type 0
HandsOut =
    InAnyOrder (λ label body ks.
    (h : History)
    → Offering label body ks h
    → (k : ℕ)
    → k ≤ last_of (length body)
    → (output : List ℕ)
    → length (written label body k) ≤ length output
    → copy_after h (label_key label) k output ≡ filled (written label body k) output)

-- the body of a section that is handed out, past the header's eight bytes
abbrev pub body_of : Out → List ℕ
body_of copied = drop 8 (take (size_in copied.code) copied.out)

-- the bodies of sections 0 to n - 1, each handed out into an output of 1,024 bytes or more, joined
abbrev pub bodies_after : History → Key → List ℕ → ℕ → List ℕ
bodies_after h key output zero = []
bodies_after h key output (suc n) = bodies_after h key output n ++ body_of (copy_after h key n output)

-- the joined bodies of the sections that are handed out are the given body
abbrev pub BodiesBack : Type 0
BodiesBack =
    InAnyOrder (λ label body ks.
    (h : History)
    → Offering label body ks h
    → (output : List ℕ)
    → 1024 ≤ length output
    → bodies_after h (label_key label) output (last_of (length body) + 1) ≡ body)
