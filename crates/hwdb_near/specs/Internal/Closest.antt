-- What the code's closest pattern means.
use Rattle.hwdb_spec_commands.specs.NearPrefixes.{Close}
use Rattle.hwdb_near.specs.declared.prefixes.Close.{Close as Found}
use Rattle.hwdb_near.specs.Internal.Ratings.{rated_of}

-- a text, and the nearest pattern to it
abbrev pub close_of : Found → Close
close_of c = record { text = c.text.now; near = rated_of c.near }
