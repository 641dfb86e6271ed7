-- Operations on the current filehandle (RFC 7530 4.1, 16): none, the root by 0, or a file by its number from 1.
use Rattle.std.specs.Prelude.{ℕ, not, ◌==◌, nat_le, if◌then◌else◌, List, [], length, Option, Some, None}
use Rattle.xl_base.specs.Handles.{file_at}
use Rattle.xl_nfs.specs.declared.status.NfsStatus.TheVariants.{Ok, NoEnt, NotDir, Inval, Stale, BadHandle, NoFileHandle}
use Rattle.xl_nfs_state.specs.State.{NfsLists}
use Rattle.xl_nfs_opens.specs.Files.{root, file_named}
use Rattle.xl_plan.specs.Plans.{Tells, Does}
use Rattle.xl_nfs_opens.specs.Plans.{Plan}
use Rattle.xl_nfs_opens.specs.declared.told.Told.TheVariants.{Ended, Handle}

-- PUTROOTFH (16.22)
unfoldable pub put_root_fh : NfsLists → Plan
put_root_fh l = Does [] l (Ended Ok, Some root)

abbrev pub put_file : ℕ → NfsLists → Option ℕ → Option ℕ → Plan
put_file count l current None = Tells (Ended BadHandle, current)
put_file count l current (Some file) = if nat_le file count then Does [] l (Ended Ok, Some file) else Tells (Ended Stale, current)

-- PUTFH (16.20), if so many files are exported (NFS-10)
unfoldable pub put_fh : ℕ → NfsLists → Option ℕ → List ℕ → Plan
put_fh count l current fh = put_file count l current (file_at fh)

-- GETFH (16.8)
unfoldable pub get_fh : NfsLists → Option ℕ → Plan
get_fh l None = Tells (Ended NoFileHandle, None)
get_fh l (Some file) = Does [] l (Handle file, Some file)

abbrev pub found_file : NfsLists → Option ℕ → Option ℕ → Plan
found_file l current None = Tells (Ended NoEnt, current)
found_file l current (Some file) = Does [] l (Ended Ok, Some file)

-- LOOKUP (16.13): the root is the one directory (NFS-10)
unfoldable pub look_up : List (List ℕ) → NfsLists → Option ℕ → List ℕ → Plan
look_up files l None name = Tells (Ended NoFileHandle, None)
look_up files l (Some file) name =
    if not (file == root) then Tells (Ended NotDir, Some file)
    else if length name == 0 then Tells (Ended Inval, Some file)
    else found_file l (Some file) (file_named files name)
