-- What the front needs of the core, and what it leaves.
pub use Rattle.xl_smb_locks.specs.Short.{IsReady, IsOpenAsk, Leaves}
