-- What is known of databases that may be replaced.
use Rattle.std.specs.Prelude.{◌≡◌, None, false}
use Rattle.hwdb_tool.specs.declared.reloading.Identities.{Identities}
use Rattle.hwdb_tool.specs.declared.reloading.Watch.{Watch}

-- nothing tells what is in the places of both databases
abbrev pub AreNone : Identities → Type 0
AreNone found = (found.etc ≡ None) × (found.usr ≡ None)

-- nothing told what was in their places when the database was read that answers, and no line says that it can't be taken
abbrev pub IsCalm : Watch → Type 0
IsCalm watch = AreNone watch.seen × (watch.is_failing ≡ false)
