-- The elements of a header, one after the other.
use Rattle.std.specs.Prelude.{ℕ, ◌+◌, true, List, length, Ok, Err, Result}
use Rattle.wire.specs.declared.elements.Element as the_element
use Rattle.wire.specs.declared.elements.Overrun.{Overrun}
use Rattle.wire.specs.declared.elements.Elements.{Elements}
use Rattle.wire.specs.Header.{Element, elements_in, overrun}

-- those that are still to come, and the place behind the last
abbrev pub elements_left : Elements → List Element
elements_left e = elements_in 0 e.place e.rest.now

abbrev pub end_of : Elements → ℕ
end_of e = e.place + length e.rest.now

-- an element that was given, or one that overruns its header
abbrev pub seen_element : Result the_element.Element Overrun → Element
seen_element (Ok e) = record { at = e.place; kind = e.kind; octets = e.octets.now; whole = true }
seen_element (Err o) = overrun o.place
