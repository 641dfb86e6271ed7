-- A body begins with its size, and names parts of the frame by offset and length (MS-SMB2 2.2). A fixed part of an odd
-- size is one byte shorter than that: the size counts the first byte of the part behind it.
use Rattle.std.specs.Prelude.{ℕ, false, List, None, Result}
use Rattle.xl_layout.specs.Layouts.{U16, Layout, part}
use Rattle.xl_layout.specs.Forms.{Form, form_read, Body, body_read}
use Rattle.xl_smb.specs.declared.fault.SmbBad.{SmbBad}
use Rattle.xl_smb.specs.declared.fault.SmbBad.TheVariants.{Short, Magic, Size, Offset}

-- the faults in their order
abbrev pub number_of_fault : SmbBad → ℕ
number_of_fault Short = 1
number_of_fault Magic = 2
number_of_fault (Size command found) = 3
number_of_fault Offset = 4

-- a part that offset and length name in two bytes each; a part of no bytes leaves no frame (SMB-2)
abbrev pub buffer : {A : Type 0} → (A → List ℕ) → (List ℕ → Layout A) → Layout A
buffer get rest = part (record { offset = U16; count = U16; empty_at_0 = false; test = None }) get rest

-- a body behind the header of 64 bytes, of this size and so many fixed bytes; those that no field names may be anything when
-- they are read, and are zeros when they are written (SMB-4)
abbrev pub form : {A : Type 0} → ℕ → ℕ → Layout A → Form A
form size fixed layout = record { before = 64; size = size; fixed = fixed; layout = layout }

-- what a command's body of this form tells, and what its body tells
abbrev pub form_at : {A : Type 0} → Form A → ℕ → List ℕ → List ℕ → Result A SmbBad
form_at f command frame body = form_read (Size command) Offset f frame body

abbrev pub body_at : {A : Type 0} → Body A → ℕ → List ℕ → List ℕ → Result A SmbBad
body_at b command frame body = body_read (Size command) Offset b frame body
