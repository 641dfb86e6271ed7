use Rattle.std.proofs.Common.{◌≡◌, drop}
use Rattle.xl_front_smb.specs.Ending.{requests_dropped}
use Rattle.xl_front_smb.proofs.ending.drop_requests.Given as goal

abbrev pub invariant-requests : goal.invariant-requests
invariant-requests l = requests_dropped (drop l.number-index l.numbers) l.state ≡ requests_dropped l.numbers l.initial.state
