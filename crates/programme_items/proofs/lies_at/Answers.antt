-- `programme_items::lies_at` meets its contract: the places rise from part to part, so that one passes the end where a later place does.
use borrow.Author.Rules.{rules}
use mathlib.Core.Path.{◌≡◌, refl, sym, ◌∙◌}
use native.Mathlib.Omega.{arith}
use Prim.Native.Nat.{◌+◌, ◌-◌, ◌/◌}
use Rattle.std.specs.Prelude.{Some, None}
use Rattle.programme.specs.Field.{number}
use Rattle.programme.specs.Run.{run_of}
use Rattle.programme.specs.Table.{content_name_length_at}
use Rattle.programme_items.specs.Parts.{up_to, included}
use Rattle.base.specs.Octets.{Octets}
use Rattle.programme.proofs.Numbers.{below, part-number}
use Rattle.programme_items.proofs.Places.{up-past, up_ends, Named, name-at, count_at, loop-run, lies-cut, lies-past, lies-there}
use Rattle.base.specs.Bytes.{byte}
use lib.ListN.{length}
use Rattle.programme_items.proofs.lies_at.Goals as goal

pub overflow_cast-flags : goal.overflow_cast-flags
overflow_cast-flags c =
    let octets : Octets c.args.bytes.now = λ k. omega (arith, c.type_inv.bytes k) in
    let fits = below c.args.bytes.now (c.args.at + 4) octets 2 in
    let at = c.args.at in
    let m : at + 6 - (at + 4) ≡ 2 = omega arith in
    let is = c.number.ensures (omega arith) ∙ part-number c.args.bytes.now (at + 4) (at + 6 - (at + 4)) 2 m (omega (arith, c.if-size-at.false)) in
    omega (arith, fits, is)

pub returns-in_err-named : goal.returns-in_err-named
returns-in_err-named c =
    let flagged : c.number.result ≡ number c.args.bytes.now (c.args.at + 4) 2 = let at = c.args.at in
    let m : at + 6 - (at + 4) ≡ 2 = omega arith in c.number.ensures (omega arith) ∙ part-number _ _ _ 2 m (omega (arith, c.if-size-at.false)) in
    let passes : c.args.at + 6 + included (c.number.result / 64) ≡ content_name_length_at c.args.bytes.now c.args.at = name-at (record { flags = flagged; place = refl }) in
    let past : None ≡ up_to (length c.args.bytes.now) (c.args.at + 6 + included (c.number.result / 64)) = search rules in
    let l = up-past _ _ past in
    let none : c.from_residual.result ≡ None = search rules in
    none ∙ lies-cut c.args.bytes.now c.args.at (omega (arith, l, passes))

pub returns-then-size-named : goal.returns-then-size-named
returns-then-size-named c =
    let flagged : c.number.result ≡ number c.args.bytes.now (c.args.at + 4) 2 = let at = c.args.at in
    let m : at + 6 - (at + 4) ≡ 2 = omega arith in c.number.ensures (omega arith) ∙ part-number _ _ _ 2 m (omega (arith, c.if-size-at.false)) in
    let there : Some c.in_ok-named.named ≡ up_to (length c.args.bytes.now) (c.args.at + 6 + included (c.number.result / 64)) = search rules in
    let u = up_ends _ _ _ there in
    let seen : Named c.args.bytes.now c.args.at c.number.result c.in_ok-named.named = record { flags = flagged; place = u.0 } in
    lies-cut c.args.bytes.now c.args.at (omega (arith, name-at seen, c.if-size-named.true))

pub returns-then-size-counted : goal.returns-then-size-counted
returns-then-size-counted c =
    let flagged : c.number.result ≡ number c.args.bytes.now (c.args.at + 4) 2 = let at = c.args.at in
    let m : at + 6 - (at + 4) ≡ 2 = omega arith in c.number.ensures (omega arith) ∙ part-number _ _ _ 2 m (omega (arith, c.if-size-at.false)) in
    let there : Some c.in_ok-named.named ≡ up_to (length c.args.bytes.now) (c.args.at + 6 + included (c.number.result / 64)) = search rules in
    let u = up_ends _ _ _ there in
    let seen : Named c.args.bytes.now c.args.at c.number.result c.in_ok-named.named = record { flags = flagged; place = u.0 } in
    lies-cut c.args.bytes.now c.args.at (omega (arith, count_at seen c.from.ensures, c.if-size-counted.true))

pub returns-in_err-next : goal.returns-in_err-next
returns-in_err-next c =
    let flagged : c.number.result ≡ number c.args.bytes.now (c.args.at + 4) 2 = let at = c.args.at in
    let m : at + 6 - (at + 4) ≡ 2 = omega arith in c.number.ensures (omega arith) ∙ part-number _ _ _ 2 m (omega (arith, c.if-size-at.false)) in
    let there : Some c.in_ok-named.named ≡ up_to (length c.args.bytes.now) (c.args.at + 6 + included (c.number.result / 64)) = search rules in
    let u = up_ends _ _ _ there in
    let seen : Named c.args.bytes.now c.args.at c.number.result c.in_ok-named.named = record { flags = flagged; place = u.0 } in
    let past : None ≡ run_of (byte c.args.bytes.now (c.in_ok-named.named + 1 + c.from.result)) c.args.bytes.now (c.in_ok-named.named + 1 + c.from.result + 1) = search rules in
    let none : c.from_residual-in_err-next.result ≡ None = search rules in
    none ∙ lies-past c.args.bytes.now c.args.at (sym (loop-run seen c.from.ensures) ∙ sym past)

pub returns : goal.returns
returns c =
    let flagged : c.number.result ≡ number c.args.bytes.now (c.args.at + 4) 2 = let at = c.args.at in
    let m : at + 6 - (at + 4) ≡ 2 = omega arith in c.number.ensures (omega arith) ∙ part-number _ _ _ 2 m (omega (arith, c.if-size-at.false)) in
    let there : Some c.in_ok-named.named ≡ up_to (length c.args.bytes.now) (c.args.at + 6 + included (c.number.result / 64)) = search rules in
    let u = up_ends _ _ _ there in
    let seen : Named c.args.bytes.now c.args.at c.number.result c.in_ok-named.named = record { flags = flagged; place = u.0 } in
    let ends : Some c.in_ok-next.next ≡ run_of (byte c.args.bytes.now (c.in_ok-named.named + 1 + c.from.result)) c.args.bytes.now (c.in_ok-named.named + 1 + c.from.result + 1) = search rules in
    let n = c.from.ensures in
    lies-there c.args.bytes.now c.args.at (omega (arith, count_at seen n)) _ (sym (loop-run seen n) ∙ sym ends) seen n
