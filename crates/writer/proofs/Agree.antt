-- Sections written and read agree.
--   reads_back    a written section is read as its label, its number, the last number and its part of the body
--   writes_back   a sound section whose reserved bits are 1 is laid out as its own fields are
use mathlib.Core.Path.{◌≡◌, ap, ◌∙◌}
use mathlib.Core.List.{List, ◌∷◌}
use mathlib.Core.Logic.{inl, inr, ⊎_elim}
use Prim.Native.Nat.{ℕ, ◌+◌, ◌-◌, ◌*◌, ◌/◌, ◌%◌, ◌≤◌}
use native.Mathlib.Omega.{arith}
use lib.ListN.{length, drop, length-drop}
use lib.Seq.{drop-cons}
use Rattle.base.specs.Bytes.{byte}
use Rattle.key.specs.Key.{nrt_it}
use Rattle.section.specs.Section.{key_in, read_of}
use Rattle.std.specs.Prelude.{Ok}
use Rattle.section.proofs.Laws.{sound-facts}
use Rattle.section.proofs.ExactlyWhen.{sound}
use Rattle.key.proofs.Keys.{key-other}
use Rattle.section.proofs.Keys.{key-id, key-further}
use Rattle.writer.specs.Writer.{full, longest_body, last_of, body_at, section_of, written}
pub use Rattle.writer.specs.Theorems.{label_key, found}
use Rattle.writer.specs.Theorems.{ReadsBack, WritesBack}
use Rattle.writer.specs.declared.Label.{Label}
use Rattle.writer.proofs.Laws.{last-le, length-body, ends-within, starts-within, length-section}

pub section-reads : (label : Label) (k last : ℕ) (bytes : List ℕ) → ¬ (label.table ≡ nrt_it) → label.version ≤ 31 → k ≤ last → last ≤ 15 → length bytes ≤ full →
    read_of (section_of label k last bytes) ≡ Ok (found label k last bytes)
unfolding section_of
section-reads label k last bytes other v h l b =
    let s = section_of label k last bytes in
    let size : length s ≡ 8 + length bytes = length-section label k last bytes in
    let extension : label.extension / 256 * 256 + label.extension % 256 ≡ label.extension = omega arith in
    let key : key_in s ≡ label_key label = key-other label.table _ _ _ other ∙ ap (λ n. record { table = label.table; extension = n; service = 0; start = 0 }) extension in
    let version : (192 + 2 * label.version + 1) / 2 % 32 ≡ label.version = omega arith in
    let high : (64 + 48 + (5 + length bytes) / 256) / 64 ≡ 1 = omega arith in
    let odd : (64 + 48 + (5 + length bytes) / 256) / 64 % 2 ≡ 1 = rw high in
    let counted : (64 + 48 + (5 + length bytes) / 256) % 16 * 256 + (5 + length bytes) % 256 ≡ 5 + length bytes = omega arith in
    let rest : 3 + ((64 + 48 + (5 + length bytes) / 256) % 16 * 256 + (5 + length bytes) % 256) - 8 ≡ length bytes = omega arith in
    (sound s (found label k last bytes)).1 (
      (
        λ x. omega arith,
        (
          λ x. ⊎_elim (λ e. omega arith) (λ e. omega arith) x,
          (
            λ x. ⊎_elim (λ e. omega arith) (λ e. omega arith) x,
            (λ x. omega arith, (λ x. omega arith, (λ x. omega arith, (λ x. omega arith, (λ x. omega arith, (λ x. other x.0, tt)))))),
          ),
        ),
      ),
      rw (key, version, rest),
    )

module _ (label : Label) (body : List ℕ) (k : ℕ) (fits : length body ≤ longest_body) (five : label.version ≤ 31) (known : k ≤ last_of (length body)) where
  pub length-carried : length (body_at body k) ≤ full
  length-carried =
      let w = ends-within (length body) (full * k) (starts-within (length body) k known) in
      let e = length-body body k known in
      omega arith

  read_back : ¬ (label.table ≡ nrt_it) → read_of (written label body k) ≡ Ok (found label k (last_of (length body)) (body_at body k))
  unfolding written
  read_back other = section-reads label k (last_of (length body)) (body_at body k) other five known (last-le (length body) fits) length-carried

pub reads_back : (label : Label) (body : List ℕ) (k : ℕ) → ReadsBack label body k
reads_back label body k other fits five known = read_back label body k fits five known other

-- a list of eight bytes and more begins with them
opened : (s : List ℕ) → 8 ≤ length s →
    s ≡ byte s 0 ∷ byte s 1 ∷ byte s 2 ∷ byte s 3 ∷ byte s 4 ∷ byte s 5 ∷ byte s 6 ∷ byte s 7 ∷ drop 8 s
opened s l =
    drop-cons s 0 0 (omega arith) ∙ ap (λ r. byte s 0 ∷ r) (drop-cons s 1 0 (omega arith) ∙ ap (λ r. byte s 1 ∷ r) (drop-cons s 2 0 (omega arith) ∙ ap (λ r. byte s 2 ∷ r) (drop-cons s 3 0 (omega arith) ∙ ap (λ r. byte s 3 ∷ r) (drop-cons s 4 0 (omega arith) ∙ ap (λ r. byte s 4 ∷ r) (drop-cons s 5 0 (omega arith) ∙ ap (λ r. byte s 5 ∷ r) (drop-cons s 6 0 (omega arith) ∙ ap (λ r. byte s 6 ∷ r) (drop-cons s 7 0 (omega arith))))))))

pub writes_back : (s : List ℕ) → WritesBack s
unfolding section_of
writes_back s h o e r =
    let f = sound-facts s h e in
    let w = ((sound s h).0 e).0 in
    let least : 8 ≤ length s = f.least in
    let size : 3 + (byte s 1 % 16 * 256 + byte s 2) ≡ length s = f.size in
    let b1 = o 1 in
    let b2 = o 2 in
    let b4 = o 4 in
    let b5 = o 5 in
    let syntax : byte s 1 / 128 ≡ 1 → ⊥ = λ x. w.1.0 (inl x) in
    let private : byte s 1 / 64 % 2 ≡ 0 → ⊥ = λ x. w.1.0 (inr x) in
    let current : byte s 5 % 2 ≡ 0 → ⊥ = w.1.1.1.1.1.1.1.0 in
    let ones : byte s 1 / 16 % 4 ≡ 3 = r.0 in
    let ones5 : byte s 5 / 64 ≡ 3 = r.1 in
    let rest : length (drop 8 s) ≡ length s - 8 = length-drop 8 s in
    let c1 : 64 + 48 + (5 + length (drop 8 s)) / 256 ≡ byte s 1 = omega arith in
    let c2 : (5 + length (drop 8 s)) % 256 ≡ byte s 2 = omega arith in
    let c3 : (byte s 3 * 256 + byte s 4) / 256 ≡ byte s 3 = omega arith in
    let c4 : (byte s 3 * 256 + byte s 4) % 256 ≡ byte s 4 = omega arith in
    let c5 : 192 + 2 * (byte s 5 / 2 % 32) + 1 ≡ byte s 5 = omega arith in
    opened s least ∙ rw (f.header, key-id s, key-further s, c1, c2, c3, c4, c5)
