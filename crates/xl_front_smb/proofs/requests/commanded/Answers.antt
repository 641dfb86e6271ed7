use Rattle.xl_plan.proofs.BudgetLaws.{leaves_self}
use Rattle.xl_front_smb.proofs.requests.commanded.Goals as goal

pub returns-in-Echo-clause-leaves : goal.returns-in-Echo-clause-leaves
returns-in-Echo-clause-leaves g c = leaves_self _ _ _ c.requires.ready

pub returns-in-Negotiate-clause-leaves : goal.returns-in-Negotiate-clause-leaves
returns-in-Negotiate-clause-leaves g c = leaves_self _ _ _ c.requires.ready

pub returns-in-Other-clause-leaves : goal.returns-in-Other-clause-leaves
returns-in-Other-clause-leaves g c = leaves_self _ _ _ c.requires.ready

pub returns-in_ok-session_setup-in-SessionSetup-clause-keeper : goal.returns-in_ok-session_setup-in-SessionSetup-clause-keeper
returns-in_ok-session_setup-in-SessionSetup-clause-keeper g c = λ before told. c.in_ok-session_setup-in-SessionSetup.ensures.quiet before _ told

pub returns-in_ok-logoff-in-Logoff-clause-keeper : goal.returns-in_ok-logoff-in-Logoff-clause-keeper
returns-in_ok-logoff-in-Logoff-clause-keeper g c = λ before told. c.in_ok-logoff-in-Logoff.ensures.quiet before _ told

pub returns-in_ok-tree_connect-in-TreeConnect-clause-keeper : goal.returns-in_ok-tree_connect-in-TreeConnect-clause-keeper
returns-in_ok-tree_connect-in-TreeConnect-clause-keeper g c = λ before told. c.in_ok-tree_connect-in-TreeConnect.ensures.quiet before _ told

pub returns-in_ok-tree_disconnect-in-TreeDisconnect-clause-keeper : goal.returns-in_ok-tree_disconnect-in-TreeDisconnect-clause-keeper
returns-in_ok-tree_disconnect-in-TreeDisconnect-clause-keeper g c = λ before told. c.in_ok-tree_disconnect-in-TreeDisconnect.ensures.quiet before _ told

pub returns-in_ok-close-in-Close-clause-keeper : goal.returns-in_ok-close-in-Close-clause-keeper
returns-in_ok-close-in-Close-clause-keeper g c = λ before told. c.in_ok-close-in-Close.ensures.quiet before _ told

pub returns-in_ok-cancel-in-Cancel-clause-keeper : goal.returns-in_ok-cancel-in-Cancel-clause-keeper
returns-in_ok-cancel-in-Cancel-clause-keeper g c = λ before told. c.in_ok-cancel-in-Cancel.ensures.quiet before _ told

pub returns-in_ok-acknowledge-in-OplockBreak-clause-keeper : goal.returns-in_ok-acknowledge-in-OplockBreak-clause-keeper
returns-in_ok-acknowledge-in-OplockBreak-clause-keeper g c = λ before told. c.in_ok-acknowledge-in-OplockBreak.ensures.quiet before _ told
