-- The longest packet that reader and writer take, and the highest limit that a set-up may give.
use Rattle.std.specs.Prelude.{ℕ}

abbrev pub packet_limit : ℕ
packet_limit = 8192
