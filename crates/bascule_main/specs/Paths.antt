-- Where the file of a name lies.
use Rattle.std.specs.Prelude.{ℕ, List, ◌++◌, codes}
use Rattle.percent_encoding.specs.declared.ascii_set.TheConstants.{NON_ALPHANUMERIC}
use Rattle.percent_encoding.specs.Percent.{percent_encode}

-- In the folder `root` under the name with all but ASCII letters and digits escaped (RFC 3986, section 2.1).
abbrev pub path_of : List ℕ → List ℕ
path_of name = codes "root/" ++ percent_encode NON_ALPHANUMERIC name
