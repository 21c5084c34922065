-- What is proved of triggers, in words of the payload `s`: each is a theorem of `proofs/` by the same name in small letters.
use Rattle.std.specs.Prelude.{ℕ, ◌+◌, ◌<◌, ◌≤◌, ◌≡◌, Bool, true, List, [], ◌∷◌, ◌↔◌, ◌⊎◌, length, Result, Ok, Err}
use Rattle.refusal.specs.Refusal.{number, number_of}
use Rattle.refusal.specs.declared.Refusal.{Refusal}
use Rattle.base.specs.Bytes.{byte, word, part}
use Rattle.base.specs.Octets.{Octets}
use Rattle.base.specs.Tables.{Rule, ◌says◌, None, above}
use Rattle.trigger_faults.specs.Fields.{id_length, target_at, user_at}
use Rattle.trigger.specs.Trigger.{read_of}
use Rattle.trigger.specs.Belongs.{belongs_of}
use Rattle.trigger.specs.Layout.{Application, Aim, Message, Fit, name_bytes, aim_bytes, bytes_of, answer_of}
use Rattle.trigger.specs.Message.{message_of}
use Rattle.trigger.specs.Places.{Placed}
use Rattle.trigger.specs.Repeats.{Given}
use Rattle.trigger.specs.declared.Trigger.{Trigger}

-- some byte of n from a place is above 127
abbrev pub High : List ℕ → ℕ → ℕ → Type 0
High s at n = (k : ℕ) × (k < n) × (127 < byte s (at + k))

module _ (s : List ℕ) where
  -- the target's type and length
  abbrev pub type_in : ℕ
  type_in = byte s (target_at s)

  abbrev pub target_length : ℕ
  target_length = word s (target_at s + 1)

  -- trigger over 4,096 bytes
  abbrev pub TooLong : Type 0
  TooLong = 4096 < length s

  -- trigger ends inside a field that goes up to a place
  abbrev pub EndsBefore : ℕ → Type 0
  EndsBefore end = length s < end

  -- event type not 0
  abbrev pub OtherEvent : Type 0
  OtherEvent = ¬ (byte s 0 ≡ 0)

  -- application id length 1
  abbrev pub ForbiddenLength : Type 0
  ForbiddenLength = id_length s ≡ 1

  -- type 0 with length; type 1 with length not 0 or 6; type 2 with length not 0 or 2
  abbrev pub WrongLength : Type 0
  WrongLength =
      ((type_in ≡ 0) × ¬ (target_length ≡ 0))
      ⊎ (((type_in ≡ 1) × ¬ ((target_length ≡ 0) ⊎ (target_length ≡ 6)))
      ⊎ ((type_in ≡ 2) × ¬ ((target_length ≡ 0) ⊎ (target_length ≡ 2))))

  -- URI byte above 127
  abbrev pub HighByte : Type 0
  HighByte = ((3 ≤ type_in) × (type_in ≤ 5)) × High s (target_at s + 3) target_length

  -- bytes after the user data
  abbrev pub BytesLeft : Type 0
  BytesLeft = user_at s + 2 + word s (user_at s) < length s

  abbrev pub table : List Rule
  table =
      26 says TooLong
      ∷ 20 says EndsBefore 1
      ∷ 21 says OtherEvent
      ∷ 20 says EndsBefore 3
      ∷ 22 says ForbiddenLength
      ∷ 20 says EndsBefore (target_at s)
      ∷ 20 says EndsBefore (target_at s + 3)
      ∷ 23 says WrongLength
      ∷ 20 says EndsBefore (user_at s)
      ∷ 24 says HighByte
      ∷ 20 says EndsBefore (user_at s + 2)
      ∷ 20 says EndsBefore (user_at s + 2 + word s (user_at s))
      ∷ 25 says BytesLeft
      ∷ []

  abbrev pub NoneBefore : ℕ → Type 0
  NoneBefore n = None (above n table)

  -- the number of the payload's reading
  abbrev pub refusal_of : ℕ
  refusal_of = number_of (read_of s)

  -- 20 stands in the table at each field's end: it is given exactly when a row of it is so, and none above that row
  abbrev pub Refused20 : Type 0
  Refused20 = (refusal_of ≡ 20) ↔ Given 20 table

  -- each other number is given exactly when its words are so and those of no row above are
  abbrev pub Refused21 : Type 0
  Refused21 = (refusal_of ≡ 21) ↔ (NoneBefore 21 × OtherEvent)

  abbrev pub Refused22 : Type 0
  Refused22 = (refusal_of ≡ 22) ↔ (NoneBefore 22 × ForbiddenLength)

  abbrev pub Refused23 : Type 0
  Refused23 = (refusal_of ≡ 23) ↔ (NoneBefore 23 × WrongLength)

  abbrev pub Refused24 : Type 0
  Refused24 = (refusal_of ≡ 24) ↔ (NoneBefore 24 × HighByte)

  abbrev pub Refused25 : Type 0
  Refused25 = (refusal_of ≡ 25) ↔ (NoneBefore 25 × BytesLeft)

  abbrev pub Refused26 : Type 0
  Refused26 = (refusal_of ≡ 26) ↔ TooLong

  -- no number is given exactly when none is so
  abbrev pub NotRefused : Type 0
  NotRefused = (refusal_of ≡ 0) ↔ None table

  -- no other number is given
  abbrev pub RefusedRange : Type 0
  RefusedRange = (r : Refusal) → read_of s ≡ Err r → (20 ≤ number r) × (number r ≤ 26)

  -- of bytes, what is read as a trigger is the bytes of one that fits, and the answer is that one's
  abbrev pub ReadBytes : Type 0
  ReadBytes =
      Octets s → (t : Trigger) → read_of s ≡ Ok t → Fit (message_of s) × (s ≡ bytes_of (message_of s)) × (t ≡ answer_of (message_of s))

  -- a payload of bytes is read as a trigger exactly when it is the bytes of a message that fits, and the answer is that message's
  abbrev pub Exactly : Type 0
  Exactly = Octets s → (t : Trigger) → (read_of s ≡ Ok t) ↔ ((m : Message) × Fit m × (s ≡ bytes_of m) × (t ≡ answer_of m))

  -- the places of every trigger that is read of bytes are true
  abbrev pub AllPlaced : Type 0
  AllPlaced = Octets s → (t : Trigger) → read_of s ≡ Ok t → Placed s t

  -- two answers that keep the promise of `trigger::read_trigger` are equal
  abbrev pub OneReading : Type 0
  OneReading = (x y : Result Trigger Refusal) → x ≡ read_of s → y ≡ read_of s → x ≡ y

  -- the bytes that a trigger names its application by
  abbrev pub name_shown : Trigger → List ℕ
  name_shown t = part s t.id.place t.id.length

  -- a trigger belongs to an application exactly when its id length is 0 or its id bytes equal the application's:
  module _ (t : Trigger) (id : List ℕ) where
    -- of any trigger with any payload
    abbrev pub BelongsExactly : Type 0
    BelongsExactly =
        (belongs_of s t id ≡ true) ↔ ((t.idlength ≡ 0) ⊎ ((t.id.place + t.id.length ≤ length s) × (name_shown t ≡ id)))

    -- of a trigger that was read from the payload, which is of bytes
    abbrev pub ReadBelongs : Type 0
    ReadBelongs = Octets s → read_of s ≡ Ok t → (belongs_of s t id ≡ true) ↔ ((t.idlength ≡ 0) ⊎ (name_shown t ≡ id))

    -- two answers that keep the promise of `trigger::belongs` are equal
    abbrev pub OneBelonging : Type 0
    OneBelonging = (x y : Bool) → x ≡ belongs_of s t id → y ≡ belongs_of s t id → x ≡ y

module _ (m : Message) where
  -- the bytes of a trigger that fits say it, and are read as it
  abbrev pub BytesSay : Type 0
  BytesSay = Fit m → message_of (bytes_of m) ≡ m

  abbrev pub BytesRead : Type 0
  BytesRead = Fit m → read_of (bytes_of m) ≡ Ok (answer_of m)

  -- the places where the target's bytes and the user data begin, and what stands there
  abbrev pub aimed : ℕ
  aimed = 3 + length (name_bytes m.application) + 3

  abbrev pub ended : ℕ
  ended = aimed + length (aim_bytes m.aim) + 2

  abbrev pub TargetShown : Type 0
  TargetShown = part (bytes_of m) aimed (length (aim_bytes m.aim)) ≡ aim_bytes m.aim

  abbrev pub UserShown : Type 0
  UserShown = part (bytes_of m) ended (length m.user) ≡ m.user

-- two triggers that fit never have the same bytes
abbrev pub OneMessage : Type 0
OneMessage = (m n : Message) → Fit m → Fit n → bytes_of m ≡ bytes_of n → m ≡ n

-- what stands at the id's place is the id
abbrev pub IdShown : Type 0
IdShown =
    (d : ℕ) (id : List ℕ) (aim : Aim) (user : List ℕ)
    → part (bytes_of (record { application = Application.named d id; aim = aim; user = user })) 5 (length id) ≡ id
