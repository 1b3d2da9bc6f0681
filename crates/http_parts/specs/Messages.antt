-- The bytes of a message: a status line, three headers, and a body in JSON.
use Rattle.std.specs.Prelude.{ℕ, List, [], ◌∷◌, ◌++◌, codes, decimal, length, unwrap_or}
use Rattle.http.specs.StatusCode.{reason_phrase}
use Rattle.serde_json.specs.Data.{Data}
use Rattle.serde_json.specs.Written.{compact_text}

abbrev pub crlf : List ℕ
crlf = 13 ∷ 10 ∷ []

-- the status line, the headers and the body
abbrev pub parts_text : ℕ → List ℕ → ℕ → List ℕ → List ℕ
parts_text status phrase size body =
    codes "HTTP/1.1 " ++ decimal status ++ codes " " ++ phrase ++ crlf
    ++ codes "content-type: application/json" ++ crlf
    ++ codes "content-length: " ++ decimal size ++ crlf
    ++ codes "connection: close" ++ crlf ++ crlf ++ body

-- the message of that status, whose body is the value
abbrev pub message : ℕ → Data → List ℕ
message status d = parts_text status (unwrap_or (reason_phrase status) []) (length (compact_text d)) (compact_text d)
