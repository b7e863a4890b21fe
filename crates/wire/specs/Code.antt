use Rattle.std.specs.Prelude.{ℕ, cond, List, Some, None, codes, Option, ◌==◌}
use Rattle.wire.specs.declared.code.ErrorCode.{ErrorCode}
use Rattle.wire.specs.declared.code.ErrorCode.TheVariants as error
use Rattle.wire.specs.declared.code.ReleaseCode.{ReleaseCode}
use Rattle.wire.specs.declared.code.ReleaseCode.TheVariants as release

-- Error codes: 0 unknown, 1 protocol error, 2 version, 3 external addressing not supported
abbrev pub error_number : ErrorCode → ℕ
error_number error.Unknown = 0
error_number error.Protocol = 1
error_number error.Version = 2
error_number error.Addressing = 3

abbrev pub error_numbered : ℕ → Option ErrorCode
error_numbered n = cond (n == 0) (Some error.Unknown) (cond (n == 1) (Some error.Protocol) (cond (n == 2) (Some error.Version) (cond (n == 3) (Some error.Addressing) None)))

abbrev pub error_name : ErrorCode → List ℕ
error_name error.Unknown = codes "unknown"
error_name error.Protocol = codes "protocol error"
error_name error.Version = codes "version"
error_name error.Addressing = codes "external addressing not supported"

-- release codes: 0 unknown, 1 timer, 2 idle, 3 user
abbrev pub release_number : ReleaseCode → ℕ
release_number release.Unknown = 0
release_number release.Timer = 1
release_number release.Idle = 2
release_number release.User = 3

abbrev pub release_numbered : ℕ → Option ReleaseCode
release_numbered n = cond (n == 0) (Some release.Unknown) (cond (n == 1) (Some release.Timer) (cond (n == 2) (Some release.Idle) (cond (n == 3) (Some release.User) None)))

abbrev pub release_name : ReleaseCode → List ℕ
release_name release.Unknown = codes "unknown"
release_name release.Timer = codes "timer"
release_name release.Idle = codes "idle"
release_name release.User = codes "user"
