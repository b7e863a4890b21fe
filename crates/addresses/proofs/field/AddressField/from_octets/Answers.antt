use Rattle.std.proofs.Common.{◌≡◌, List, sym, subst, rules}
use Rattle.terms.specs.Octets.{octets_of}
use Rattle.wire.specs.Address.{LawfulField}
use Rattle.addresses.proofs.Fields.{whole_lawful}
use Rattle.addresses.proofs.field.AddressField.from_octets.Goals as goal

pub invariant_of-result : goal.invariant_of-result
invariant_of-result c =
    let e : octets_of c.unwrap-octets.result ≡ c.args.octets.now = search rules in
    let P : List _ → Type 0 = LawfulField in
    record { lawful = subst P (sym e) (whole_lawful c.args.octets.now (search rules)) }
