-- What a register holds. Assumes nothing.
use Rattle.std.specs.Prelude.{List, take}
use Rattle.register.specs.declared.Register.{Register}

-- all places of the lent slice
abbrev pub places : {K : Type 0} → Register K → List K
places r = r.keys.now

-- the keys, in their order of arrival
abbrev pub held : {K : Type 0} → Register K → List K
held r = take r.count (places r)
