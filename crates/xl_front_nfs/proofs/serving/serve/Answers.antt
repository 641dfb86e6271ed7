use Rattle.xl_front_nfs.proofs.serving.serve.Goals as goal

pub returns-in_ok-done-in-SetClientId-clause-keeper : goal.returns-in_ok-done-in-SetClientId-clause-keeper
returns-in_ok-done-in-SetClientId-clause-keeper g c = λ before told. c.in_ok-done-in-SetClientId.ensures.quiet before _ told

pub returns-in_ok-done-in-SetClientIdConfirm-clause-keeper : goal.returns-in_ok-done-in-SetClientIdConfirm-clause-keeper
returns-in_ok-done-in-SetClientIdConfirm-clause-keeper g c = λ before told. c.in_ok-done-in-SetClientIdConfirm.ensures.quiet before _ told

pub returns-in_ok-done-in-Renew-clause-keeper : goal.returns-in_ok-done-in-Renew-clause-keeper
returns-in_ok-done-in-Renew-clause-keeper g c = λ before told. c.in_ok-done-in-Renew.ensures.quiet before _ told

pub returns-in_ok-done-in-OpenConfirm-clause-keeper : goal.returns-in_ok-done-in-OpenConfirm-clause-keeper
returns-in_ok-done-in-OpenConfirm-clause-keeper g c = λ before told. c.in_ok-done-in-OpenConfirm.ensures.quiet before _ told

pub returns-in_ok-done-in-OpenDowngrade-clause-keeper : goal.returns-in_ok-done-in-OpenDowngrade-clause-keeper
returns-in_ok-done-in-OpenDowngrade-clause-keeper g c = λ before told. c.in_ok-done-in-OpenDowngrade.ensures.quiet before _ told

pub returns-in_ok-done-in-DelegReturn-clause-keeper : goal.returns-in_ok-done-in-DelegReturn-clause-keeper
returns-in_ok-done-in-DelegReturn-clause-keeper g c = λ before told. c.in_ok-done-in-DelegReturn.ensures.quiet before _ told

pub returns-in_ok-done-in-ReleaseLockOwner-clause-keeper : goal.returns-in_ok-done-in-ReleaseLockOwner-clause-keeper
returns-in_ok-done-in-ReleaseLockOwner-clause-keeper g c = λ before told. c.in_ok-done-in-ReleaseLockOwner.ensures.quiet before _ told
