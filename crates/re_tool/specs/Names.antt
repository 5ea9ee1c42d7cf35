-- The names of devices by their numbers.
-- Read against: of `device a; var x: int = 0; device b;` the device 0 is named a, the device 1 b, and there is no device 2.
use Rattle.std.specs.Prelude.{ℕ, List, filter, slice_get}
use Rattle.re_print.specs.Canonical.{declared_name}
use Rattle.re_terms.specs.Programs.{is_device}
use Rattle.re_terms.specs.declared.program.Program.{Program}

-- the name of the device with this number, empty where there is none
abbrev pub device_name : Program → ℕ → List ℕ
device_name p d = declared_name (slice_get (filter is_device p.decls.items) d)
