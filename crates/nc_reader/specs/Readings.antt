-- What a line is, and the lines of blocks, as the code hands them on.
use Rattle.std.specs.Prelude.{ℕ, List, map}
use Rattle.std.specs.Option.{option_map}
use Rattle.nc_lines.specs.declared.block.Block.{Block}
use Rattle.nc_read_filter.specs.Readings.{group_view}
use Rattle.nc_reader.specs.declared.header.Header.{Header}
use Rattle.nc_reader.specs.declared.header.Header.TheVariants as headers
use Rattle.nc_reader.specs.declared.role.Role.{Role as RoleRead}
use Rattle.nc_reader.specs.declared.role.Role.TheVariants as roles
use Rattle.nc_reader.specs.declared.topic.Subject.{Subject}
use Rattle.nc_reader.specs.declared.topic.Subject.TheVariants as subjects
use Rattle.nc_reader.specs.declared.topic.Topic.{Topic}
use Rattle.nc_reader.specs.declared.topic.Topic.TheVariants as topics
use Rattle.nc_reader.specs.Roles.{Role, Passed, Wrong, Names, Within}
use Rattle.nc_reader.specs.Steps.{Kind, Banner, Idle, Member, Heads}

-- a topic that was written
abbrev pub topic_of : Subject → Topic
topic_of (subjects.Interface name) = topics.Interface name.now
topic_of subjects.Statics = topics.Statics
topic_of (subjects.Process asn) = topics.Process asn
topic_of (subjects.Clause name number) = topics.Clause name.now number
topic_of (subjects.List name) = topics.List name.now
topic_of (subjects.Communities name) = topics.Communities name.now
topic_of subjects.Filters = topics.Filters
topic_of (subjects.Group name inward) = topics.Group name.now inward

-- an unindented statement as it was read
abbrev pub role_of_header : Header → Role
role_of_header headers.Passed = Passed
role_of_header (headers.Wrong cause) = Wrong cause
role_of_header (headers.Names name) = Names name.now
role_of_header (headers.Speaks subject) = Within (topic_of subject)

-- a line as it was read
abbrev pub kind_of_role : RoleRead → Kind
kind_of_role (roles.Banner in_banner cause) = Banner in_banner cause
kind_of_role roles.Idle = Idle
kind_of_role (roles.Member group) = Member (option_map group_view group)
kind_of_role (roles.Heads header) = Heads (role_of_header header)

-- the lines of each of these blocks
abbrev pub lines_in : List Block → List (List ℕ)
lines_in blocks = map (λ block. block.lines.items) blocks
