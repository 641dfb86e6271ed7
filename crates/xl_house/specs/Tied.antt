-- The rows of the fronts and the claims of the core are tied.
use Rattle.xl_house.specs.Lawful.{Law}
use Rattle.xl_house.specs.NfsTied.{IsNfsTied}

-- so they are after each entry
abbrev pub IsTied : Law
IsTied n s e t = IsNfsTied t
