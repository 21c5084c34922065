-- The buyer's third condition, of the functions that a host calls; the theorems are in proofs/Shelf.
--
-- "On a shelf begun fresh and handed back as left, a held table is called complete exactly when every section from 0 to its last
-- was accepted or loaded since it last began, by a hearing while unheld, change of version or load."
--   HeldExactly, CompleteExactly; LampExactly of the question that answers yes or no
--
-- "More reception takes nothing away: take two such histories where one table's sound sections share one version, one last number
-- and the same bytes per section number, none met a full shelf, and the table was neither released nor loaded. If the second
-- offers every such section the first does, in any order, it hands out each section the first does, with the same bytes, and
-- calls the table complete if the first does."
--   MoreReception
--
-- A `History` is any list of calls, refused ones too, after a beginning on whatever was lent, each call lent what the last one left
-- (shelf_histories, specs/History). `log_after` is the log that its numbers tell; `held_by`, `since` and `last_since` (shelf_laws,
-- specs/Log) read that log alone, and never the record. `Undisturbed` and `SectionOf` are in shelf_laws, specs/Reception.
use Rattle.std.specs.Prelude.{ℕ, ◌≤◌, ◌≡◌, Bool, true, ◌↔◌, List, length, if◌then◌else◌, Ok}
use Rattle.base.specs.Octets.{Octets}
use Rattle.section.specs.Section.{section_number}
use Rattle.answers.specs.Answers.{refusal_in, filled}
use Rattle.key.specs.declared.Key.{Key}
use Rattle.shelf_ask.specs.Answer.{whole_code, complete_lent, copy_lent}
use Rattle.shelf_laws.specs.History.{Question, about, Each}
use Rattle.shelf_laws.specs.Named.{key_in}
use Rattle.shelf_laws.specs.Log.{held_by, since, last_since}
use Rattle.shelf_laws.specs.Questions.{reply_by}
use Rattle.shelf_laws.specs.Reception.{SectionOf, OfferedIn, Undisturbed}
use Rattle.shelf_histories.specs.Numbers.{replied}
use Rattle.shelf_histories.specs.History.{History, left_after, log_after, lines_after, reply_after, whole_after, copy_after, offer_after, release_after, EachLine}

-- the number that calls a table complete
abbrev pub complete : ℕ
complete = whole_code (Ok true)

-- a table is held, which is to say that a question about it is not answered 14, exactly when it began and was not released since
abbrev pub HeldExactly : Type 0
HeldExactly = (h : History) (q : Question) → (¬ (refusal_in (reply_after h q).code ≡ 14)) ↔ (held_by (about q) (log_after h) ≡ true)

abbrev pub CompleteExactly : Type 0
CompleteExactly =
    (h : History) (key : Key)
    → held_by key (log_after h) ≡ true
    → (whole_after h key ≡ complete) ↔ ((n : ℕ) → n ≤ last_since key (log_after h) → since key (log_after h) n ≡ true)

-- the lamp's question, as a plain truth: yes exactly when the table is held and complete in this sense, and no refusal is a yes
abbrev pub lamp_after : History → Key → Bool
lamp_after h key = complete_lent (left_after h).words (left_after h).store key

abbrev pub LampExactly : Type 0
LampExactly =
    (h : History) (key : Key)
    → (lamp_after h key ≡ true)
    ↔ ((held_by key (log_after h) ≡ true) × ((n : ℕ) → n ≤ last_since key (log_after h) → since key (log_after h) n ≡ true))

abbrev pub MoreReception : Type 0
MoreReception =
    (key : Key) (version last : ℕ) (bytes : ℕ → List ℕ) (first second : History)
    → Each (Undisturbed key version last bytes) (log_after first)
    → Each (Undisturbed key version last bytes) (log_after second)
    → ((payload : List ℕ) → SectionOf key payload → OfferedIn first.calls payload → OfferedIn second.calls payload)
    → ((n : ℕ) (output : List ℕ) → refusal_in (copy_after first key n output).code ≡ 0 → copy_after second key n output ≡ copy_after first key n output)
    × (whole_after first key ≡ complete → whole_after second key ≡ complete)
    × (lamp_after first key ≡ true → lamp_after second key ≡ true)

-- beside it: every question is answered what the log says (shelf_laws, specs/Questions): a copy the bytes with which the section was last
-- accepted or loaded, a save the file of all of them, completeness as above, the lowest missing number the lowest from 0 to the table's last that
-- was not since it last began; and 14, 16 and 15 in their order
abbrev pub AskedExactly : Type 0
AskedExactly = (h : History) (q : Question) → reply_after h q ≡ replied (reply_by (log_after h) q)

-- a release is done where the table is held, and else refused 14
abbrev pub ReleasedExactly : Type 0
ReleasedExactly = (h : History) (key : Key) → (release_after h key).code ≡ (if held_by key (log_after h) then 0 else 14)

-- no call of a history is answered 17 or 18
abbrev pub Never17Nor18 : Type 0
Never17Nor18 = (h : History) → EachLine (λ l. ¬ (refusal_in l.answer.code ≡ 17) × ¬ (refusal_in l.answer.code ≡ 18)) (lines_after h)

-- and a section that is accepted is handed out byte for byte by the next ask, with its size; output past it stays as it was
abbrev pub HandedOut : Type 0
HandedOut =
    (h : History) (payload : List ℕ)
    → Octets payload
    → refusal_in (offer_after h payload).code ≡ 0
    → (output : List ℕ)
    → length payload ≤ length output
    → copy_lent (offer_after h payload).words (offer_after h payload).store (key_in payload) (section_number payload) output
    ≡ filled payload output
