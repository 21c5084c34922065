-- Every piece of the text before its last line is empty or ends with a newline.
--   Line, Ends     a text that ends with a newline; one behind which a text that ends with one still does
--   before_last    the text of a table before its last line
use mathlib.Core.Path.{◌≡◌, refl, sym, ap, ◌∙◌}
use mathlib.Core.List.{List, [], ◌++◌, append_assoc, append-nil}
use Prim.Native.Nat.{ℕ, zero, suc, ◌+◌}
use Rattle.base.specs.Bytes.{part}
use Rattle.base.proofs.Cases.{by}
use Rattle.section.specs.declared.Header.{Header}
use Rattle.file.specs.Scan.{found_at}
use Rattle.file_listing.specs.Words as words
use Rattle.file_listing.specs.Words.{newline, lines}
use Rattle.file_listing.specs.Listing.{added_words, head_line, missing_line, missing_of}
use Rattle.text.specs.Words.{field}
use Rattle.programme.specs.Reading.{Reading, Step, Own, read_of, step_of, own_of}
use Rattle.std.specs.Prelude.{Ok, Err, Some, None}
use Rattle.refusal.specs.declared.Refusal.{Refusal}
use Rattle.refusal.specs.Refusal.{number}
use Rattle.programme.specs.declared.Programme.{Programme}
use Rattle.programme.specs.declared.Loop.{Loop}
use Rattle.programme.specs.declared.Item.{Item}
use Rattle.programme_lines.specs.Lines.{refused_at, programme_line, item_line, flags_line, included_lines, name_line, descriptors_line, list_line, item_text}
use Rattle.programme_section.specs.Section.{own_place, own_text, step_text, items_text, read_text, section_text}
use Rattle.programme_listing.specs.Listing.{payload_of, section_of}

-- a text that ends with a newline
pub record Line (t : List ℕ) : Type 0 where
  pub before : List ℕ
  pub is : t ≡ before ++ newline

-- behind a text that ends with a newline, it leaves one that does
pub record Ends (t : List ℕ) : Type 0 where
  pub after : (u : List ℕ) → Line ((u ++ newline) ++ t)

new : Line newline
new = record { before = []; is = refl }

front : (a : List ℕ) {b : List ℕ} → Line b → Line (a ++ b)
front a l = record { before = a ++ l.before; is = ap (λ t. a ++ t) l.is ∙ sym (append_assoc a l.before newline) }

none : Ends []
none = record { after = λ u. record { before = u; is = append-nil (u ++ newline) } }

line : {t : List ℕ} → Line t → Ends t
line l = record { after = λ u. front (u ++ newline) l }

join : (a b : List ℕ) → Ends a → Ends b → Ends (a ++ b)
join a b p q = record { after = go }
  where
    go : (u : List ℕ) → Line ((u ++ newline) ++ (a ++ b))
    go u =
        let first = p.after u in
        let second = q.after first.before in
        record { before = second.before; is = sym (append_assoc (u ++ newline) a b) ∙ ap (λ t. t ++ b) first.is ∙ second.is }

head : (h : Header) → Line (head_line h)
unfolding head_line
head h =
    front (words.field "table " h.key.table)
    (front (words.field " key " h.key.extension)
    (front (added_words h.key) (front (words.field " version " h.version) (front (words.field " last " h.last) new))))

missing : (n : ℕ) → Line (missing_line n)
unfolding missing_line
missing n = front (words.field "missing " n) new

refused-at : (n m at : ℕ) → Line (refused_at n m at)
unfolding refused_at
refused-at n m at = front (field "section " n) (front (field " refused " m) (front (field " place " at) new))

programme : (n : ℕ) (p : Programme) → Line (programme_line n p)
unfolding programme_line
programme n p =
    front (field "section " n)
    (front (field " service " p.service)
    (front (field " start " p.start) (front (field " minutes " p.minutes) (front (field " items " p.items) new))))

descriptors : (l : Loop) → Line (descriptors_line l)
unfolding descriptors_line
descriptors l = front (field "descriptors " l.count) (front (field " bytes " l.length) new)

list-line : (l : Loop) → Line (list_line l)
unfolding list_line
list-line l = front (field "list descriptors " l.count) (front (field " bytes " l.length) new)

item : (name : List ℕ) (k : ℕ) (i : Item) → Line (item_text name k i)
unfolding item_text
item name k i =
    front (item_line k i.linkage)
    (front (flags_line i.flags) (front (included_lines i) (front (name_line name) (descriptors i.descriptors))))

module _ (n : ℕ) (s : List ℕ) where
  own : (at : ℕ) (x : Own) → Ends (own_text n s at x)
  own at (Ok l) = line (list-line l)
  own at (Err m) = line (refused-at n (number m) (own_place n s at m))

  step : (k at : ℕ) (x : Step) (follow : ℕ → List ℕ) → ((to : ℕ) → Ends (follow to)) → Ends (step_text n s k at x follow)
  step k at (Ok (Some i)) follow p =
      join (item_text (part s i.nameat i.named) k i) (follow i.next) (line (item (part s i.nameat i.named) k i)) (p i.next)
  step k at (Err m) follow p = line (refused-at n (number m) at)
  step k at (Ok None) follow p = none

  items : (left k at : ℕ) → Ends (items_text n s left k at)
  unfolding items_text
  items zero k at = own at (own_of s at)
  items (suc left) k at = step k at (step_of s at k) (items_text n s left (k + 1)) (items left (k + 1))

  read : (r : Reading) → Ends (read_text n s r)
  read (Err m) = line (refused-at n (number m) 8)
  read (Ok p) = join (programme_line n p) (items_text n s p.items 0 17) (line (programme n p)) (items p.items 0 17)

  section : Ends (section_text n s)
  unfolding section_text
  section = read (read_of s)

all_lines : (n : ℕ) (f : ℕ → List ℕ) → ((k : ℕ) → Ends (f k)) → Ends (lines n f)
unfolding lines
all_lines zero f p = none
all_lines (suc n) f p = join (lines n f) (f n) (all_lines n f p) (p n)

module _ (file starts lengths : List ℕ) where
  section-of : (n : ℕ) → Ends (section_of file starts lengths n)
  unfolding section_of
  section-of n = by (found_at lengths n) (λ t. rw t (section n (payload_of file starts lengths n))) (λ f. rw f none)

  missing-of : (n : ℕ) → Ends (missing_of lengths n)
  unfolding missing_of
  missing-of n = by (found_at lengths n) (λ t. rw t none) (λ f. rw f (line (missing n)))

  pub before_last : (h : Header) (n : ℕ) → Line (head_line h ++ (lines n (section_of file starts lengths) ++ lines n (missing_of lengths)))
  before_last h n =
      let first = head h in
      let rest =
      join (lines n (section_of file starts lengths)) (lines n (missing_of lengths)) (all_lines n (section_of file starts lengths) section-of)
      (all_lines n (missing_of lengths) missing-of) in
      rw first.is (rest.after first.before)
