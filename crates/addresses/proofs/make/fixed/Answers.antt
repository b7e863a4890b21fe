use Rattle.std.proofs.Common.{◌≡◌, ◌+◌, ◌*◌, List, ◌∷◌, length, sym, subst, rules}
use Rattle.terms.specs.Octets.{octets_of}
use Rattle.wire.specs.Address.{LawfulField}
use Rattle.wire.specs.Kind.{address_kind_number}
use Rattle.addresses.proofs.Fields.{fixed_lawful}
use Rattle.addresses.proofs.make.fixed.Goals as goal

pub invariant_of-result : goal.invariant_of-result
invariant_of-result c =
    let k = address_kind_number c.args.kind in
    let xs = c.args.content.now in
    let e : octets_of c.append.new.self ≡ (k * 32 + length xs) ∷ xs = search rules in
    let P : List _ → Type 0 = LawfulField in
    record { lawful = subst P (sym e) (fixed_lawful k xs c.requires.within c.requires.lawful) }
