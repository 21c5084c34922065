-- A payload is read as a trigger exactly when it is the bytes of that trigger.
--   bytes_read               the bytes of a trigger are read as it
--   read_bytes               what is read as a trigger is the bytes of one that fits, and the answer is that one's
--   bytes_say, one_message   the bytes of a trigger say it and no other
--   exactly                  both directions in one statement
use mathlib.Core.Path.{◌≡◌, refl, sym, ap, ◌∙◌}
use mathlib.Core.Bool.{false, ◌&&◌}
use mathlib.Core.List.{List}
use Prim.Native.Nat.{ℕ, ◌+◌, ◌≤◌}
use native.Mathlib.Omega.{arith}
use lib.ListN.{length}
use Rattle.base.specs.Bytes.{byte, word}
use Rattle.base.specs.Octets.{Octets}
use Rattle.base.proofs.Bytes.{length_part, octets-part}
use Rattle.std.specs.Prelude.{Ok}
use Rattle.trigger_faults.specs.Fields.{wrong_length, is_uri, id_length, target_at, user_at}
use Rattle.trigger.specs.Trigger.{target_of, trigger_of, read_of}
use Rattle.trigger.specs.Layout.{Application, Message, Fit, name_bytes, aim_type, aim_bytes, laid, bytes_of, answer_of}
use Rattle.trigger.specs.Theorems.{BytesSay, BytesRead, OneMessage, ReadBytes, Exactly}
use Rattle.trigger.specs.Message.{name_from, aim_from, name_in, target_bytes_in, user_in, message_of}
use Rattle.trigger.proofs.Laid.{name-length, name-part, type-byte, target-length, target-part, user-length, user-part, whole_length}
use Rattle.trigger.proofs.Clean.{Clean, clean-reads, reads-clean}
use Rattle.trigger.proofs.Unrolled.{clean-laid}
use Rattle.trigger.proofs.Names.{name_back, name-size, name-fro, name-fits, name_told, id-told}
use Rattle.trigger.proofs.Aims.{high, high_part, aim-type, aim-back, aim-size, aim-fits, aim-fro, aim-allowed, aim-ascii, aim-told}

-- the answer of a clean payload is the answer of what it says
module _ (s : List ℕ) (c : Clean s) where
  abbrev type : ℕ
  type = byte s (target_at s)

  name-long : length (name_in s) ≡ id_length s
  name-long = length_part s 3 (id_length s) c.head.ends

  target-long : length (target_bytes_in s) ≡ word s (target_at s + 1)
  target-long = length_part s (target_at s + 3) (word s (target_at s + 1)) c.target.ends

  user-long : length (user_in s) ≡ word s (user_at s)
  user-long =
      let e : user_at s + 2 + word s (user_at s) ≡ length s = c.user.ends in
      length_part s (user_at s + 2) (word s (user_at s)) (omega arith)

  pub name-odd : length (name_in s) ≡ 1 → ⊥
  name-odd e = c.head.allowed (sym name-long ∙ e)

  pub allowed : wrong_length type (length (target_bytes_in s)) ≡ false
  allowed = rw target-long c.target.allowed

  pub ascii : is_uri type && high (target_bytes_in s) ≡ false
  ascii = rw (← high_part s (target_at s + 3) (word s (target_at s + 1)) c.target.ends) c.target.ascii

  pub clean-answer : trigger_of s ≡ answer_of (message_of s)
  unfolding trigger_of answer_of message_of target_of
  clean-answer =
      rw (
        name-size (name_in s) name-odd,
        name-long,
        aim-size type (target_bytes_in s) allowed,
        target-long,
        user-long,
        ← name_told s c.head.ends c.head.allowed,
        ← id-told s c.head.ends c.head.allowed,
        ← aim-told s type (target_at s + 3) (word s (target_at s + 1)) c.target.ends c.target.allowed,
      )

-- what is laid out without a fault is clean, and says what was laid out
module _ (name : List ℕ) (type : ℕ) (target user : List ℕ) where
  abbrev s : List ℕ
  s = laid name type target user

  pub target-place : target_at s ≡ 3 + length name
  target-place = ap (λ n. 3 + n) (name-length name type target user)

  pub user-place : user_at s ≡ 3 + length name + 3 + length target
  user-place = rw (name-length name type target user, target-length name type target user)

  pub laid-clean : length s ≤ 4096 → (length name ≡ 1 → ⊥) → wrong_length type (length target) ≡ false
      → is_uri type && high target ≡ false → Clean s
  laid-clean small odd fair low =
      let whole : length s ≡ 3 + length name + 3 + length target + 2 + length user = whole_length name type target user in
      let ends : 3 + length name + 3 + length target ≤ length s = omega arith in
      record {
        head =
            record {
              small = small;
              event = refl;
              sized = omega arith;
              allowed = rw (name-length name type target user) odd;
              ends = rw (name-length name type target user) (omega arith);
            };
        target =
            rw target-place
            record {
              sized = omega arith;
              allowed = rw (type-byte name type target user, target-length name type target user) fair;
              ends = rw (target-length name type target user) ends;
              ascii =
                  rw (
                    type-byte name type target user,
                    target-length name type target user,
                    high_part s (3 + length name + 3) (length target) ends,
                    target-part name type target user,
                  )
                  low;
            };
        user =
            rw user-place
            record { sized = omega arith; ends = rw (user-length name type target user) (sym whole) };
      }

  pub laid-says : message_of s ≡ record { application = name_from name; aim = aim_from type target; user = user }
  unfolding message_of
  laid-says =
      rw (
        user-place,
        target-place,
        name-length name type target user,
        name-part name type target user,
        type-byte name type target user,
        target-length name type target user,
        target-part name type target user,
        user-length name type target user,
        user-part name type target user,
      )

name-even : (a : Application) → length (name_bytes a) ≡ 1 → ⊥
name-even Application.all e = omega arith
name-even (Application.named d id) e = omega arith

-- the bytes of a trigger
module _ (m : Message) (f : Fit m) where
  pub bytes-clean : Clean (bytes_of m)
  unfolding bytes_of
  bytes-clean =
      laid-clean (name_bytes m.application) (aim_type m.aim) (aim_bytes m.aim) m.user
      f.small (name-even m.application) (aim-allowed m.aim f.aim) (aim-ascii m.aim f.aim)

  says : message_of (bytes_of m) ≡ m
  unfolding bytes_of
  says =
      laid-says (name_bytes m.application) (aim_type m.aim) (aim_bytes m.aim) m.user
      ∙ rw (name-fro m.application, aim-fro m.aim f.aim)

  reads : read_of (bytes_of m) ≡ Ok (answer_of m)
  reads =
      clean-reads (bytes_of m) bytes-clean
      ∙ ap Ok (clean-answer (bytes_of m) bytes-clean ∙ ap answer_of says)

pub bytes_say : (m : Message) → BytesSay m
bytes_say = says

pub bytes_read : (m : Message) → BytesRead m
bytes_read = reads

pub one_message : OneMessage
one_message m n f g e = sym (bytes_say m f) ∙ ap message_of e ∙ bytes_say n g

-- a payload that is read as a trigger
module _ (s : List ℕ) (o : Octets s) where
  pub clean-bytes : Clean s → bytes_of (message_of s) ≡ s
  unfolding bytes_of message_of
  clean-bytes c =
      rw (
        name_back (name_in s) (octets-part s 3 (id_length s) o) (name-odd s c),
        aim-type (byte s (target_at s)) (target_bytes_in s),
        aim-back (byte s (target_at s)) (target_bytes_in s) (allowed s c) (octets-part s (target_at s + 3) (word s (target_at s + 1)) o),
      )
      (sym (clean-laid s o c))

  pub clean-fits : Clean s → Fit (message_of s)
  unfolding message_of
  clean-fits c =
      record {
        name = name-fits (name_in s) (octets-part s 3 (id_length s) o);
        aim =
            aim-fits (byte s (target_at s)) (target_bytes_in s) (ascii s c) (allowed s c)
            (octets-part s (target_at s + 3) (word s (target_at s + 1)) o)
            (o (target_at s));
        user = octets-part s (user_at s + 2) (word s (user_at s)) o;
        small = rw (clean-bytes c) c.head.small;
      }

pub read_bytes : (s : List ℕ) → ReadBytes s
read_bytes s o t e =
    let w = reads-clean s t e in
    (clean-fits s o w.0, sym (clean-bytes s o w.0), w.1 ∙ clean-answer s w.0)

pub exactly : (s : List ℕ) → Exactly s
exactly s o t = (
  λ e. let w = read_bytes s o t e in (message_of s, w.0, w.1, w.2),
  λ w. ap read_of w.2 ∙ bytes_read w.0 w.1 ∙ ap Ok (sym w.3),
)
