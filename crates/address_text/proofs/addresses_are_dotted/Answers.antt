use Rattle.address_text.proofs.AddressLemmas.{address_found, address_is}
use Rattle.address_text.proofs.addresses_are_dotted.Goals as goal

pub returns : goal.returns
returns c = λ text n. (λ h. address_found text n h, λ h. address_is text n h)
