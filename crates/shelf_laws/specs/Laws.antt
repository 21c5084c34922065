-- The words of the laws that other pages cite; each is proved in the file of proofs/ that is named beside it.
use Rattle.std.specs.Prelude.{ℕ, ◌<◌, ◌≤◌, ◌≡◌, Bool, true, false, ◌↔◌, List, [], ◌++◌, length, drop, if◌then◌else◌, Result, Ok, Err}
use Rattle.refusal.specs.Refusal.{number_of}
use Rattle.refusal.specs.declared.Refusal.{Refusal}
use Rattle.refusal.specs.declared.Refusal.TheVariants.{TableNotHeld}
use Rattle.section.specs.Section.{section_number}
use Rattle.berth.specs.Berth.{sections, store_size, berth_size, standing}
use Rattle.shelf.specs.Record.{fresh}
use Rattle.key.specs.declared.Key.{Key}
use Rattle.shelf_offer.specs.declared.Offered.{Offered}
use Rattle.file.specs.Scan.{scan_of}
use Rattle.shelf_ask.specs.Ask.{copy}
use Rattle.shelf_laws.specs.State.{State, Formed, offer_to, load_on, release_from, copy_out, after_offer, after_load}
use Rattle.shelf_laws.specs.Named.{key_in, offer_names, load_names, release_names}
use Rattle.shelf_laws.specs.Answers.{accepted}
use Rattle.shelf_laws.specs.History.{Question, about, Call, reply_no, reply_after, after_all, log_of, copy_after, whole_after, logged, number_in, Each}
use Rattle.shelf_laws.specs.Log.{held_by, since, last_since}
use Rattle.shelf_laws.specs.Offers.{Says}
use Rattle.shelf_laws.specs.Questions.{reply_by}
use Rattle.shelf_laws.specs.Loads.{FileSays}
use Rattle.shelf_laws.specs.Reception.{SectionOf, OfferedIn, Undisturbed}

-- every question about a table is answered otherwise than 14 exactly when the log has a beginning of it and no release since (Held)
abbrev pub HeldExactly : Type 0
HeldExactly = (h : List Call) (q : Question) → (reply_no (reply_after h q) ≡ 14 → ⊥) ↔ (held_by (about q) (log_of h) ≡ true)

-- and then a release is done, which else is refused 14 (Held)
abbrev pub ReleasedExactly : Type 0
ReleasedExactly =
    (h : List Call) (key : Key) → (release_from (after_all h) key).said ≡ (if held_by key (log_of h) then Ok tt else Err TableNotHeld)

-- a held table is called complete exactly when every section from 0 to its last was accepted or loaded since it last began (Complete)
abbrev pub CompleteExactly : Type 0
CompleteExactly =
    (h : List Call) (key : Key)
    → held_by key (log_of h) ≡ true
    → (whole_after h key ≡ Ok true) ↔ ((n : ℕ) → n ≤ last_since key (log_of h) → since key (log_of h) n ≡ true)

-- a sound section of a table is answered so exactly when the log says it (Says)
abbrev pub OfferedExactly : Type 0
OfferedExactly =
    (h : List Call) (key : Key) (payload : List ℕ)
    → SectionOf key payload
    → (a : Result Offered Refusal)
    → ((offer_to (after_all h) payload).said ≡ a) ↔ Says key payload (log_of h) a

-- every question is answered what the log says (Questions)
abbrev pub AskedExactly : Type 0
AskedExactly = (h : List Call) (q : Question) → reply_after h q ≡ reply_by (log_of h) q

-- a load is answered so exactly when the file and the log say it (Loads)
abbrev pub LoadedExactly : Type 0
LoadedExactly =
    (h : List Call) (file : List ℕ) (a : Result (Unit {0}) Refusal) → ((load_on (after_all h) file).said ≡ a) ↔ FileSays (scan_of file) (log_of h) a

-- of two histories that leave a table undisturbed, if the second offers every sound section of it that the first does, then it hands out
-- each section that the first does, with the same bytes, and calls the table complete if the first does (Reception)
abbrev pub MoreReception : Type 0
MoreReception =
    (key : Key) (version last : ℕ) (bytes : ℕ → List ℕ) (first second : List Call)
    → Each (Undisturbed key version last bytes) (log_of first)
    → Each (Undisturbed key version last bytes) (log_of second)
    → ((payload : List ℕ) → SectionOf key payload → OfferedIn first payload → OfferedIn second payload)
    → ((n : ℕ) (out : List ℕ) → number_of (copy_after first key n out).said ≡ 0 → copy_after second key n out ≡ copy_after first key n out)
    × (whole_after first key ≡ Ok true → whole_after second key ≡ Ok true)

-- from a fresh shelf with any store of its size, no call of any history is answered 17 or 18 (Never)
abbrev pub Never17Nor18 : Type 0
Never17Nor18 =
    (store : List ℕ)
    → length store ≡ store_size
    → (h : List Call)
    → Each (λ e. (number_in e ≡ 17 → ⊥) × (number_in e ≡ 18 → ⊥)) (logged (record { shelf = fresh; store = store }) [] h)

-- an accepted section is handed out byte for byte by the next ask, whether it began its table, began it again, was added or was a
-- repeat; output past it stays as it was (HandedOut)
abbrev pub HandedOut : Type 0
HandedOut =
    (s : State)
    → Formed s.shelf
    → (payload : List ℕ)
    → accepted (offer_to s payload).said ≡ true
    → (out : List ℕ)
    → length payload ≤ length out
    → copy_out (after_offer (offer_to s payload)) (key_in payload) (section_number payload) out
    ≡ copy (Ok (length payload)) (payload ++ drop (length payload) out)

-- a call changes only the berths that document 01 names: of any other the first bytes, be they as many as they may, stay (OnlyNamed,
-- Loaded, Released)
abbrev pub Stays : State → List ℕ → (ℕ → ℕ → Bool) → Type 0
Stays s store named =
    (p n k : ℕ) → n < sections → k ≤ berth_size → named p n ≡ false → standing store p n k ≡ standing s.store p n k

abbrev pub OfferElsewhere : Type 0
OfferElsewhere = (s : State) (payload : List ℕ) → Stays s (offer_to s payload).store (offer_names s.shelf payload (offer_to s payload).said)

abbrev pub LoadElsewhere : Type 0
LoadElsewhere = (s : State) (file : List ℕ) → Stays s (load_on s file).store (load_names s.shelf file (load_on s file).said)

abbrev pub ReleaseElsewhere : Type 0
ReleaseElsewhere = (s : State) (key : Key) → Stays s (release_from s key).store (release_names s.shelf key (release_from s key).said)

-- a refused call changes nothing, and neither does a repeat (Offered, Loaded)
abbrev pub OfferRefused : Type 0
OfferRefused = (s : State) (payload : List ℕ) (r : Refusal) → (offer_to s payload).said ≡ Err r → after_offer (offer_to s payload) ≡ s

abbrev pub OfferRepeat : Type 0
OfferRepeat = (s : State) (payload : List ℕ) → (offer_to s payload).said ≡ Ok Offered.Repeat → after_offer (offer_to s payload) ≡ s

abbrev pub LoadRefused : Type 0
LoadRefused = (s : State) (file : List ℕ) (r : Refusal) → (load_on s file).said ≡ Err r → after_load (load_on s file) ≡ s
