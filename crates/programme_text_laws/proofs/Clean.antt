-- No text disturbs a terminal (`specs/Theorems.antt` has the words).
--   text_clean
use mathlib.Core.Path.{◌≡◌, refl}
use mathlib.Core.Bool.{Bool, true, false}
use mathlib.Core.List.{List, []}
use Prim.Native.Nat.{ℕ, zero, suc, ◌+◌, ◌/◌, ◌%◌, ◌^◌}
use Prim.Native.String.{String}
use lib.Dec.{eqb}
use lib.ListN.{get_or}
use Rattle.base.specs.Bits.{bit}
use Rattle.base.specs.Below.{every}
use Rattle.base.specs.Bytes.{part}
use Rattle.base.specs.Octets.{Octets}
use Rattle.base.proofs.Bytes.{octets-part}
use Rattle.base.proofs.Cases.{by}
use Rattle.key.specs.declared.Key.{Key}
use Rattle.section.specs.declared.Header.{Header}
use Rattle.file.specs.Scan.{scan_of, found_at}
use Rattle.file.specs.declared.Table.{Table}
use Rattle.file_listing.specs.Words as words
use Rattle.file_listing.specs.Words.{ascii, newline, lines}
use Rattle.file_listing.specs.Listing.{added_words, head_line, missing_line, missing_of, refused_line}
use Rattle.text.specs.Words.{field}
use Rattle.text.proofs.Clean.{Plain, plain-join, plain_word, good, all-good, plain-decimal, plain-lister, plain-long, plain-escaped}
use Rattle.programme.specs.Table.{nrt_it}
use Rattle.programme.specs.Reading.{Reading, Step, Own, read_of, step_of, own_of}
use Rattle.std.specs.Prelude.{Result, Ok, Err, Some, None}
use Rattle.refusal.specs.declared.Refusal.{Refusal}
use Rattle.refusal.specs.Refusal.{number}
use Rattle.programme.specs.declared.Programme.{Programme}
use Rattle.programme.specs.declared.Loop.{Loop}
use Rattle.programme.specs.declared.Item.{Item}
use Rattle.programme_lines.specs.Lines.{refused_at, programme_line, item_line, flags_line, playback_line, delay_line, expires_line, size_line, name_line, descriptors_line, list_line, item_text}
use Rattle.programme_lines.specs.Lines.{other_line, whole_line, not_whole_line}
use Rattle.programme_section.specs.Section.{own_place, own_text, step_text, items_text, read_text, section_text}
use Rattle.programme_listing.specs.Listing.{end_line, payload_of, section_of, whole_at, list_text, table_text, answer_text, text_of}
use Rattle.programme_text_laws.specs.Theorems.{TextClean}

none : Plain []
unfolding all-good
none = plain_word [] refl

ended : Plain newline
unfolding all-good good
ended = plain_word newline refl

-- a word that is tested, and a number
one : (w : String) (n : ℕ) → all-good (ascii w) ≡ true → Plain (field w n)
one w n e = plain-join (plain_word (ascii w) e) (plain-decimal n)

-- one of the lister's
listed : (w : String) (n : ℕ) → all-good (ascii w) ≡ true → Plain (words.field w n)
listed w n e = plain-join (plain_word (ascii w) e) (plain-lister n)

added : (key : Key) → Plain (added_words key)
unfolding added_words all-good good
added key =
    by (eqb key.table nrt_it)
    (λ t.
    rw t (plain-join (listed " service " key.service refl) (plain-join (plain_word (ascii " start ") refl) (plain-long key.start))))
    (λ f. rw f none)

head : (h : Header) → Plain (head_line h)
unfolding head_line all-good good
head h =
    plain-join (listed "table " h.key.table refl)
    (plain-join (listed " key " h.key.extension refl)
    (plain-join (added h.key) (plain-join (listed " version " h.version refl) (plain-join (listed " last " h.last refl) ended))))

missing : (n : ℕ) → Plain (missing_line n)
unfolding missing_line all-good good
missing n = plain-join (listed "missing " n refl) ended

refused : (n : ℕ) → Plain (refused_line n)
unfolding refused_line all-good good
refused n = plain-join (listed "refused " n refl) ended

refused-at : (n m at : ℕ) → Plain (refused_at n m at)
unfolding refused_at all-good good
refused-at n m at = plain-join (one "section " n refl) (plain-join (one " refused " m refl) (plain-join (one " place " at refl) ended))

programme : (n : ℕ) (p : Programme) → Plain (programme_line n p)
unfolding programme_line all-good good
programme n p =
    plain-join (one "section " n refl)
    (plain-join (one " service " p.service refl)
    (plain-join (one " start " p.start refl) (plain-join (one " minutes " p.minutes refl) (plain-join (one " items " p.items refl) ended))))

item-line : (k linkage : ℕ) → Plain (item_line k linkage)
unfolding item_line all-good good
item-line k linkage = plain-join (one "item " k refl) (plain-join (one " linkage " linkage refl) ended)

flags : (f : ℕ) → Plain (flags_line f)
unfolding flags_line all-good good
flags f =
    plain-join (one "updates " (f / 2 ^ 9 % 2) refl)
    (plain-join (one " fragment " (f / 2 ^ 8 % 2) refl)
    (plain-join (one " protected " (f / 2 ^ 7 % 2) refl)
    (plain-join (one " master " (f / 2 ^ 6 % 2) refl)
    (plain-join (one " internet " (f / 2 ^ 1 % 2) refl) (plain-join (one " broadcast " (f / 2 ^ 0 % 2) refl) ended)))))

module _ (i : Item) where
  playback : Plain (playback_line i)
  unfolding playback_line all-good good
  playback = by (bit i.flags 5) (λ t. rw t (plain-join (one "playback " i.playback refl) ended)) (λ f. rw f none)

  delay : Plain (delay_line i)
  unfolding delay_line all-good good
  delay = by (bit i.flags 4) (λ t. rw t (plain-join (one "delay " i.delay refl) ended)) (λ f. rw f none)

  expires : Plain (expires_line i)
  unfolding expires_line all-good good
  expires = by (bit i.flags 3) (λ t. rw t (plain-join (one "expires " i.expires refl) ended)) (λ f. rw f none)

  size : Plain (size_line i)
  unfolding size_line all-good good
  size = by (bit i.flags 2) (λ t. rw t (plain-join (one "size " i.size refl) ended)) (λ f. rw f none)

name : (bytes : List ℕ) → Octets bytes → Plain (name_line bytes)
unfolding name_line all-good good
name bytes o = plain-join (plain_word (ascii "name ") refl) (plain-join (plain-escaped bytes o) ended)

descriptors : (l : Loop) → Plain (descriptors_line l)
unfolding descriptors_line all-good good
descriptors l = plain-join (one "descriptors " l.count refl) (plain-join (one " bytes " l.length refl) ended)

list-line : (l : Loop) → Plain (list_line l)
unfolding list_line all-good good
list-line l = plain-join (one "list descriptors " l.count refl) (plain-join (one " bytes " l.length refl) ended)

item : (bytes : List ℕ) → Octets bytes → (k : ℕ) (i : Item) → Plain (item_text bytes k i)
unfolding item_text
item bytes o k i =
    plain-join (item-line k i.linkage)
    (plain-join (flags i.flags)
    (plain-join (plain-join (playback i) (plain-join (delay i) (plain-join (expires i) (size i)))) (plain-join (name bytes o) (descriptors i.descriptors))))

module _ (n : ℕ) (s : List ℕ) (o : Octets s) where
  own : (at : ℕ) (x : Own) → Plain (own_text n s at x)
  own at (Ok l) = list-line l
  own at (Err m) = refused-at n (number m) (own_place n s at m)

  step : (k at : ℕ) (x : Step) (follow : ℕ → List ℕ) → ((to : ℕ) → Plain (follow to)) → Plain (step_text n s k at x follow)
  step k at (Ok (Some i)) follow p = plain-join (item (part s i.nameat i.named) (octets-part s i.nameat i.named o) k i) (p i.next)
  step k at (Err m) follow p = refused-at n (number m) at
  step k at (Ok None) follow p = none

  items : (left k at : ℕ) → Plain (items_text n s left k at)
  unfolding items_text
  items zero k at = own at (own_of s at)
  items (suc left) k at = step k at (step_of s at k) (items_text n s left (k + 1)) (items left (k + 1))

  read : (r : Reading) → Plain (read_text n s r)
  read (Err m) = refused-at n (number m) 8
  read (Ok p) = plain-join (programme n p) (items p.items 0 17)

  section : Plain (section_text n s)
  unfolding section_text
  section = read (read_of s)

all_lines : (n : ℕ) (line : ℕ → List ℕ) → ((k : ℕ) → Plain (line k)) → Plain (lines n line)
unfolding lines
all_lines zero line p = none
all_lines (suc n) line p = plain-join (all_lines n line p) (p n)

end : (b : Bool) → Plain (end_line b)
unfolding all-good good
end true = plain_word whole_line refl
end false = plain_word not_whole_line refl

module _ (file starts lengths : List ℕ) (o : Octets file) where
  section-of : (n : ℕ) → Plain (section_of file starts lengths n)
  unfolding section_of
  section-of n =
      by (found_at lengths n)
      (λ t. rw t (section n (payload_of file starts lengths n) (octets-part file (get_or starts n 0) (get_or lengths n 0) o)))
      (λ f. rw f none)

  missing-of : (n : ℕ) → Plain (missing_of lengths n)
  unfolding missing_of
  missing-of n = by (found_at lengths n) (λ t. rw t none) (λ f. rw f (missing n))

  list : (last : ℕ) → Plain (list_text file starts lengths last)
  unfolding list_text
  list last =
      plain-join (all_lines (last + 1) (section_of file starts lengths) section-of)
      (plain-join (all_lines (last + 1) (missing_of lengths) missing-of) (end (every (last + 1) (whole_at file starts lengths))))

  table : (h : Header) → Plain (table_text file starts lengths h)
  unfolding table_text all-good good
  table h =
      by (eqb h.key.table nrt_it)
      (λ t. rw t (plain-join (head h) (list h.last)))
      (λ f. rw f (plain-join (head h) (plain_word other_line refl)))

answer : (file : List ℕ) → Octets file → (a : Result Table Refusal) → Plain (answer_text file a)
answer file o (Ok t) = table file t.starts t.lengths o t.header
answer file o (Err r) = refused (number r)

pub text_clean : (file : List ℕ) → TextClean file
unfolding text_of
text_clean file o = (answer file o (scan_of file)).each
